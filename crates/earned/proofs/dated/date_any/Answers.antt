-- `date_any` meets its contract: by a small table where it is enough.
use native.Mathlib.Omega.{arith}
use Rattle.planned.proofs.Reaching.{reach_few, reach_full}
use Rattle.earned.proofs.dated.date_any.Goals as goal

pub fits_small-requires : goal.fits_small-requires
fits_small-requires c = let r = c.requires.reach in (r.covers.ahead, r.covers.most, reach_few r)

pub date_sized-requires : goal.date_sized-requires
date_sized-requires c = let s = c.requires in record { reach = s.reach; room = (c.fits_small.ensures c.if-fits_small.true).days; most = omega arith; measured = s.measured }

pub date_sized-requires-2 : goal.date_sized-requires-2
date_sized-requires-2 c = let s = c.requires in record { reach = s.reach; room = omega (arith, reach_full s.reach); most = omega arith; measured = s.measured }
