-- `put_months` meets its contract: one row a turn.
use Prim.Native.Nat.{◌*◌}
use native.Mathlib.Omega.{arith}
use mathlib.Core.Path.{sym, ap, ◌∙◌}
use lib.Dec.{eqb}
use lib.Seq.{sets}
use mir.Syntax.{w64}
use Rattle.integer.specs.Linear.{back}
use Rattle.flat.proofs.Spans.{rows_none, rows_more, rows_end}
use Rattle.answers.specs.Rows.{twelve_width}
use Rattle.twelve.specs.Largest.{sum_at}
use Rattle.twelve.proofs.Largest.{mark_is, row_put, row_wide}
use borrow.Author.Rules.{rules}
use Rattle.twelve.proofs.writing.put_months.Goals as goal

pub loop-k-init : goal.loop-k-init
loop-k-init c =
    (c.requires.sums_bound.1, rows_none twelve_width _ (row_wide c.args.first c.args.largest c.args.sums.now) _ _ c.requires.sums_bound.1)

pub loop-k-preserved : goal.loop-k-preserved
loop-k-preserved c =
    let a = c.args in (
      c.put_month.auto.out ∙ c.loop-k.invariant.0,
      rows_more twelve_width _ (row_wide a.first a.largest a.sums.now) _ c.loop-k.invariant.1 c.loop-k-test.true (omega arith)
          (c.put_month.ensures ∙ ap (sets c.loop-k.out (c.loop-k.k * twelve_width)) (row_put a.first a.largest a.sums.now c.loop-k.k c.first_day-day.ensures (back w64 (sum_at a.sums.now c.loop-k.k) (search rules)) (mark_is (eqb c.loop-k.k a.largest)))),
    )

pub returns : goal.returns
returns c =
    let a = c.args in
    rows_end twelve_width _ (row_wide a.first a.largest a.sums.now) _ c.loop-k.invariant.1 c.loop-k-test.false

pub overflow_add-first : goal.overflow_add-first
overflow_add-first c = omega (arith, c.requires.sums_bound.0)

pub first_day-day-requires : goal.first_day-day-requires
first_day-day-requires c = (c.requires.days_value, omega (arith, c.requires.sums_bound.0))

pub overflow_mul-k : goal.overflow_mul-k
overflow_mul-k c = omega (arith, c.requires.sums_bound.0)

pub put_month-requires : goal.put_month-requires
put_month-requires c = omega (arith, c.loop-k.invariant.0)

pub shape_of-out : goal.shape_of-out
shape_of-out c = c.loop-k.invariant.0 ∙ sym c.requires.sums_bound.1
