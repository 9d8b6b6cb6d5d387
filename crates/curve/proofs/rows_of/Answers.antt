-- `rows_of` meets its contract: the dates that are asked are narrowed to the reach of the listed spans.
use native.Mathlib.Omega.{arith}
use Rattle.bydate.proofs.Writing.{nothing_points}
use Rattle.planned.proofs.Reaching.{reach_few, reach_full}
use Rattle.curve.proofs.Curving.{narrowed_asked, narrowed_fits, narrowed_rows, narrowed_nothing, full_dates}
use Rattle.curve.proofs.rows_of.Goals as goal

pub returns-then-asked : goal.returns-then-asked
returns-then-asked c =
    nothing_points _ _ (narrowed_nothing c.reach_of-reach.ensures c.requires.are_phased c.args.between c.ask-asked.ensures c.if-asked.true)

pub fits_small-requires : goal.fits_small-requires
fits_small-requires c = let r = c.reach_of-reach.ensures in (r.covers.ahead, r.covers.most, reach_few r)

pub sized_rows-requires : goal.sized_rows-requires
sized_rows-requires c =
    let reach = c.reach_of-reach.ensures in
    let small = narrowed_fits reach c.requires.are_phased c.args.between c.ask-asked.ensures (c.fits_small.ensures c.if-fits_small.true) in record {
      asked = narrowed_asked reach c.requires.are_phased c.args.between c.ask-asked.ensures c.if-asked.false;
      room = (small.days, omega (arith, small.dates));
      most = (omega arith, omega arith);
    }

pub returns-then-fits_small : goal.returns-then-fits_small
returns-then-fits_small c =
    narrowed_rows c.reach_of-reach.ensures c.requires.are_phased c.args.between c.ask-asked.ensures c.sized_rows.ensures

pub sized_rows-requires-2 : goal.sized_rows-requires-2
sized_rows-requires-2 c =
    let asked = narrowed_asked c.reach_of-reach.ensures c.requires.are_phased c.args.between c.ask-asked.ensures c.if-asked.false in
    record { asked = asked; room = (reach_full asked.reached, omega (arith, full_dates asked)); most = (omega arith, omega arith) }

pub returns : goal.returns
returns c =
    narrowed_rows c.reach_of-reach.ensures c.requires.are_phased c.args.between c.ask-asked.ensures c.sized_rows-2.ensures
