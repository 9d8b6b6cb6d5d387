-- `count_rows` meets its contract: one activity a turn.
use Prim.Native.Nat.{ℕ}
use native.Mathlib.Omega.{arith}
use mathlib.Core.Path.{◌≡◌, sym, ◌∙◌, subst}
use mathlib.Core.Bool.{true}
use mathlib.Core.List.{List}
use Rattle.flat.proofs.Cells.{row_inside}
use Rattle.variances.specs.Days.{is_under, Reaches}
use Rattle.variances.proofs.Changing.{changing_none, changing_room, changing_more, changing_end}
use Rattle.variances.proofs.days.count_rows.Goals as goal

pub loop-i-init : goal.loop-i-init
loop-i-init c = changing_none _ _ _ _ c.requires.tables.rows

pub count_row-requires : goal.count_row-requires
count_row-requires c =
    let a = c.args in
    let loop = c.loop-i in
    let h = c.loop-i-test.true in record {
      i_in_bounds = (omega (arith, c.requires.tables.scheduled, row_inside 13 h), changing_room loop.invariant h);
      reaches =
          subst (λ (row : List ℕ). is_under a.schedule.now a.number loop.i row ≡ true → Reaches a.reach a.schedule.now loop.i row)
          (sym (loop.invariant.left loop.i (omega arith))) (c.requires.by_index loop.i h);
      counted = c.requires.counted;
    }

pub loop-i-preserved : goal.loop-i-preserved
loop-i-preserved c = changing_more c.loop-i.invariant c.count_row.ensures

pub shape_of-out : goal.shape_of-out
shape_of-out c = c.loop-i.invariant.long ∙ sym c.requires.tables.rows

pub returns : goal.returns
returns c = changing_end c.loop-i.invariant c.loop-i-test.false
