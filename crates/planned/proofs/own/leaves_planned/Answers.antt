-- `leaves_planned` meets its contract. The loop's invariant: the sum so far, with what is left, is the whole.
use Prim.Native.Nat.{◌+◌}
use mathlib.Core.Path.{sym, ap, ◌∙◌}
use mathlib.Core.List.{map}
use native.Mathlib.Omega.{arith}
use lib.IntN.{ℤ, pos}
use lib.ListN.{length, get_or}
use mir.Syntax.{w64}
use mir.Val.{to_z}
use borrow.Author.Tests.{eq-eqb, ne_eqb}
use Rattle.integer.specs.Linear.{back}
use Rattle.lists.specs.Lists.{span}
use Rattle.lists.proofs.Spans.{made_length, made_at}
use Rattle.tree.specs.Figures.{saturating_add}
use Rattle.tree.proofs.Leaves.{sum_from, sum_first, sum_taken, sum_passed, sum_last}
use Rattle.planned.specs.Values.{planned_at}
use Rattle.planned.proofs.own.leaves_planned.Goals as goal
use Rattle.planned.proofs.own.leaves_planned.Goals.{else-marks-i-eq0, then-marks-i-eq0}

pub loop-i-init : goal.loop-i-init
loop-i-init c = (omega arith, sum_first _ _)

pub bounds-marks-i : goal.bounds-marks-i
bounds-marks-i c = omega (arith, c.loop-i-test.true, c.requires.most)

pub planned_at-value-requires : goal.planned_at-value-requires
planned_at-value-requires c = record { are_tabled = c.requires; i_in_bounds = c.loop-i-test.true }

pub loop-i-preserved : goal.loop-i-preserved
loop-i-preserved c =
    let l = c.loop-i in
    let marks = c.args.marks.now in
    let f = planned_at c.args.base c.args.width c.args.days.now c.args.date c.args.listed.now c.args.budgets.now in
    let n = length c.args.budgets.now in
    let all = map f (span 0 n) in
    let test = c.loop-i-test.true in
    elim c.if-marks-i-eq0.branch [
      | then-marks-i-eq0 w ↦ (
        omega arith,
        ap (λ (z : ℤ). sum_from marks all z (l.i + 1))
            (w.sum-is
            ∙ back w64 w.saturating_add-sum.result w.saturating_add-sum.type_inv
            ∙ w.saturating_add-sum.ensures
            ∙ ap (saturating_add (to_z w64 l.sum-bits)) (back w64 w.planned_at-value.result w.planned_at-value.type_inv ∙ w.planned_at-value.ensures ∙ sym (made_at f (pos 0) n l.i test)))
            ∙ sym (sum_taken marks all (to_z w64 l.sum-bits) l.i (omega (arith, made_length f n, test)) (eq-eqb (get_or marks l.i 0) 0 w.if-marks-i-eq0.true))
            ∙ l.invariant.1,
      )
      | else-marks-i-eq0 w ↦ (
        omega arith,
        ap (λ (z : ℤ). sum_from marks all z (l.i + 1)) w.sum-is
            ∙ sym (sum_passed marks all (to_z w64 l.sum-bits) l.i (omega (arith, made_length f n, test)) (ne_eqb (get_or marks l.i 0) 0 w.if-marks-i-eq0.false))
            ∙ l.invariant.1,
      )
    ]

pub returns : goal.returns
returns c =
    let l = c.loop-i in
    let s = c.args in
    let n = length s.budgets.now in
    let f = planned_at s.base s.width s.days.now s.date s.listed.now s.budgets.now in
    sym (sum_last s.marks.now (map f (span 0 n)) (to_z w64 l.sum-bits) l.i (omega (arith, made_length f n, c.loop-i-test.false))) ∙ l.invariant.1
