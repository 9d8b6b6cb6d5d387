-- `sized_dates` meets its contract: by a small table where it is enough.
use native.Mathlib.Omega.{arith}
use Rattle.planned.proofs.Reaching.{reach_few, reach_full}
use Rattle.periods.proofs.listed.sized_dates.Goals as goal

pub reach_of-reach-requires : goal.reach_of-reach-requires
reach_of-reach-requires c = let s = c.requires in record { opened = s.opened; listed_value = s.listed_value }

pub fits_small-requires : goal.fits_small-requires
fits_small-requires c = let r = c.reach_of-reach.ensures in (r.covers.ahead, r.covers.most, reach_few r)

pub own_dates-requires : goal.own_dates-requires
own_dates-requires c =
    let s = c.requires in
    record { reach = c.reach_of-reach.ensures; room = (c.fits_small.ensures c.if-fits_small.true).days; most = omega arith; marks_leaves = s.marks_leaves; out_len = s.out_len }

pub returns-then-fits_small : goal.returns-then-fits_small
returns-then-fits_small c = c.own_dates.ensures

pub own_dates-requires-2 : goal.own_dates-requires-2
own_dates-requires-2 c =
    let s = c.requires in
    record { reach = c.reach_of-reach.ensures; room = omega (arith, reach_full c.reach_of-reach.ensures); most = omega arith; marks_leaves = s.marks_leaves; out_len = s.out_len }

pub returns : goal.returns
returns c = c.own_dates-2.ensures
