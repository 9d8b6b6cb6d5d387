-- `mark_parents` meets its contract: one mark a turn.
use Prim.Native.Nat.{ℕ, ◌+◌}
use native.Mathlib.Omega.{arith}
use mathlib.Core.Path.{sym, ap, ◌∙◌}
use mathlib.Core.Bool.{not}
use mathlib.Core.List.{List, foldl}
use borrow.Author.Tests.{eq-eqb, ne_eqb}
use Rattle.ledger.specs.Accounts.{marked_by, is_marked}
use Rattle.ledger.proofs.Named.{onward, onward_first, onward_taken, onward_passed, onward_end}
use Rattle.ledger.proofs.marks.mark_parents.Goals as goal
use Rattle.ledger.proofs.marks.mark_parents.Goals.{else-parents-i-ne0, then-parents-i-ne0}

pub loop-i-init : goal.loop-i-init
loop-i-init c = (omega arith, ap (foldl (marked_by (λ i. i)) c.args.marks.now) (onward_first (is_marked c.args.parents.now) c.args.count))

pub loop-i-preserved : goal.loop-i-preserved
loop-i-preserved c =
    let l = c.loop-i in
    let more = c.loop-i-test.true in
    let test = is_marked c.args.parents.now in
    let n = c.args.count in
    let next : List ℕ → List ℕ = λ (ms : List ℕ). foldl (marked_by (λ i. i)) ms (onward test n (l.i + 1)) in
    elim c.if-parents-i-ne0.branch [ then-parents-i-ne0 w ↦ (omega arith, ap next w.marks-is ∙ sym (ap (foldl (marked_by (λ i. i)) l.marks) (onward_taken test n l.i more (ap not (ne_eqb _ _ w.if-parents-i-ne0.true)))) ∙ l.invariant.1) | else-parents-i-ne0 w ↦ (omega arith, ap next w.marks-is ∙ sym (ap (foldl (marked_by (λ i. i)) l.marks) (onward_passed test n l.i more (ap not (eq-eqb _ _ w.if-parents-i-ne0.false)))) ∙ l.invariant.1) ]

pub returns : goal.returns
returns c =
    let l = c.loop-i in
    sym (ap (foldl (marked_by (λ i. i)) l.marks) (onward_end (is_marked c.args.parents.now) c.args.count l.i c.loop-i-test.false)) ∙ l.invariant.1
