-- `date_values` meets its contract: by a small table, or as of any book.
use native.Mathlib.Omega.{arith}
use Rattle.planned.proofs.Reaching.{reach_few}
use Rattle.earned.proofs.dated.date_values.Goals as goal

pub reach_of-reach-requires : goal.reach_of-reach-requires
reach_of-reach-requires c = let s = c.requires in record { opened = s.opened; listed_value = s.listed_value }

pub date_any-requires : goal.date_any-requires
date_any-requires c = record { reach = c.reach_of-reach.ensures; measured = c.requires.measured }

pub fits_small-requires : goal.fits_small-requires
fits_small-requires c = let r = c.reach_of-reach.ensures in (r.covers.ahead, r.covers.most, reach_few r)

pub date_sized-requires : goal.date_sized-requires
date_sized-requires c =
    record { reach = c.reach_of-reach.ensures; room = (c.fits_small.ensures c.if-fits_small.true).days; most = omega arith; measured = c.requires.measured }

pub date_any-requires-2 : goal.date_any-requires-2
date_any-requires-2 c = record { reach = c.reach_of-reach.ensures; measured = c.requires.measured }
