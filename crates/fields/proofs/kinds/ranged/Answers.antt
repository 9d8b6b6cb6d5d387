-- `ranged` meets its contract, by cases on the position.
use Rattle.format.specs.Reader.{ranged}
use Rattle.fields.proofs.Common.{ranged_few}
use Rattle.fields.proofs.kinds.ranged.Goals as goal

pub returns-then-fits : goal.returns-then-fits
returns-then-fits c =
    rw c.in-Ok.is (ranged_few _ _ c.in-Some.n c.in-Some.ensures _ _ _ _ (c.fits.ensures c.if-fits.true))

pub returns-after-short : goal.returns-after-short
unfolding ranged
returns-after-short c =
    rw (c.in-Ok.is, ← c.number-n.ensures, ← c.within.ensures) c.found.ensures

pub returns-in-Err : goal.returns-in-Err
unfolding ranged
returns-in-Err c = rw c.in-Err.is
