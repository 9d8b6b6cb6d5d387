-- `put_values` meets its contract: one row a turn.
use Prim.Native.Nat.{◌*◌, ◌-◌}
use native.Mathlib.Omega.{arith}
use mathlib.Core.Path.{◌≡◌, ap, sym, ◌∙◌}
use lib.ListN.{length}
use lib.Seq.{sets}
use Rattle.lists.specs.Lists.{span}
use Rattle.model.specs.declared.Earned.{Earned}
use Rattle.flat.proofs.Written.{Written}
use Rattle.flat.proofs.Spans.{rows_none, rows_more, rows_end}
use Rattle.answers.specs.Rows.{earned_width, earned_row}
use Rattle.answers.proofs.SizedEarned.{row_wide}
use Rattle.value.specs.Figures.{earned_in}
use Rattle.value.proofs.Reading.{rows_read}
use Rattle.value.proofs.put_values.Goals as goal

pub loop-i-init : goal.loop-i-init
loop-i-init c = (c.requires.1, rows_none earned_width _ (λ i. row_wide (earned_in c.args.table.now i)) _ _ c.requires.1)

pub earned_at-requires : goal.earned_at-requires
earned_at-requires c = omega arith

pub put_earned-requires : goal.put_earned-requires
put_earned-requires c = omega arith

pub loop-i-preserved : goal.loop-i-preserved
loop-i-preserved c =
    let a = c.args in (
      c.out-1.given ∙ c.loop-i.invariant.0,
      rows_more earned_width _ (λ i. row_wide (earned_in a.table.now i)) _ c.loop-i.invariant.1 c.loop-i-test.true (omega arith)
          (c.put_earned.ensures ∙ ap (λ (e : Earned). sets c.loop-i.out (c.loop-i.i * earned_width) (earned_row e)) c.earned_at.ensures),
    )

pub shape_of-out : goal.shape_of-out
shape_of-out c = c.loop-i.invariant.0 ∙ sym c.requires.1

pub returns : goal.returns
returns c =
    λ book date count e.
    let a = c.args in
    rows_end earned_width _ (λ i. row_wide (earned_in a.table.now i)) _ c.loop-i.invariant.1 c.loop-i-test.false ∙ rows_read book date a.n count e

pub overflow_mul-i : goal.overflow_mul-i
overflow_mul-i c = omega arith
