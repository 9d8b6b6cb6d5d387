-- `put_fitting` meets its contract: 10, or the rows at the front.
use native.Mathlib.Omega.{arith}
use mathlib.Core.Path.{sym, ◌∙◌}
use lib.Seq.{length-take-le}
use Rattle.answers.proofs.Sized.{no_room, in_front}
use Rattle.twelve.proofs.Largest.{rows_are, rows_sized}
use Rattle.twelve.proofs.writing.put_fitting.Goals as goal

pub returns-then-out-n : goal.returns-then-out-n
returns-then-out-n c = λ xs w e. no_room _ c.args.out.now (rows_sized w) (omega arith)

pub returns : goal.returns
returns c =
    λ xs w e.
    let largest = c.largest_at-largest in
    in_front _ c.args.out.now (rows_sized w) (omega (arith, c.if-out-n.false)) _ (c.put_months.ensures ∙ rows_are w e largest.ensures)

pub overflow_mul-n : goal.overflow_mul-n
overflow_mul-n c = omega (arith, c.requires.sums_bound.0)

pub largest_at-largest-requires : goal.largest_at-largest-requires
largest_at-largest-requires c = c.requires.sums_bound.1

pub slice_bounds-put_months-end-2 : goal.slice_bounds-put_months-end-2
slice_bounds-put_months-end-2 c = sym (length-take-le _ _ c.if-out-n.false)

pub put_months-requires : goal.put_months-requires
put_months-requires c = record { days_value = c.requires.days_value; sums_bound = (c.requires.sums_bound.0, length-take-le _ _ c.if-out-n.false) }
