-- `optional_index` meets its contract: a mark of one byte and a number of few, or else `optional`.
use native.Mathlib.Omega.{arith}
use Rattle.fields.proofs.Common.{absent_few, present_few, optional_refused}
use Rattle.fields.proofs.kinds.optional_index.Goals as goal

pub overflow_add-result : goal.overflow_add-result
overflow_add-result c = omega (arith, (c.mark_at-mark.ensures (omega arith)).inside)

pub returns-then-mark-eq0 : goal.returns-then-mark-eq0
returns-then-mark-eq0 c =
    rw c.in-Ok.is (absent_few _ _ _ (c.mark_at-mark.ensures (omega arith)) _ _ c.if-mark-eq0.true)

pub overflow_add-i : goal.overflow_add-i
overflow_add-i c = omega (arith, (c.mark_at-mark.ensures (omega arith)).inside)

pub brief-requires : goal.brief-requires
brief-requires c = omega (arith, (c.mark_at-mark.ensures (omega arith)).inside)

pub returns-then-fits : goal.returns-then-fits
returns-then-fits c =
    rw c.in-Ok.is
    (present_few _ _ _ (c.mark_at-mark.ensures (omega arith)) _ _ c.in-Some.n c.if-mark-eq1.true c.in-Some.ensures (c.fits.ensures c.if-fits.true))

pub returns-after-mark-eq1 : goal.returns-after-mark-eq1
returns-after-mark-eq1 c = rw c.in-Ok.is c.optional.ensures

pub returns-in-Err : goal.returns-in-Err
returns-in-Err c = rw c.in-Err.is (optional_refused _ _ _ _)
