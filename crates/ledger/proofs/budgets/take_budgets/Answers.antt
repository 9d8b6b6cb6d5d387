-- `take_budgets` meets its contract: one budget a turn.
use Prim.Native.Nat.{ℕ, ◌-◌}
use mathlib.Core.Path.{ap}
use lib.ListN.{set}
use Rattle.format.specs.Verdict.{content}
use Rattle.sections.specs.Sections.{budget_of}
use Rattle.ledger.specs.Accounts.{budget_place, budget_taken, marked_by}
use Rattle.ledger.proofs.Reading.{Folded, folded_none, folded_more, folded_end}
use Rattle.ledger.proofs.Naming.{Naming, naming_none, naming_next, naming_more, naming_end}
use borrow.Author.Rules.{rules}
use Rattle.ledger.proofs.budgets.take_budgets.Goals as goal

pub loop-init : goal.loop-init
loop-init c =
    (naming_none c.requires.budgets c.requires.marks_value, folded_none _ _ _, folded_none _ _ _)

pub loop-preserved : goal.loop-preserved
unfolding budget_of
loop-preserved c =
    let got = c.next_budget-b in
    let l = c.loop in
    let more = c.loop-test.true in
    let most = c.requires.budgets.most in
    let marked = ap (λ (k : ℕ). set l.marks k 1) c.account_number-k.ensures.0 in
    let e = naming_next l.invariant.0 most more got.result got.ensures in (
      naming_more l.invariant.0 most more got.result got.ensures marked,
      folded_more l.invariant.1 e _ c.take_budget.ensures,
      folded_more l.invariant.2 e _ marked,
    )

pub returns : goal.returns
returns c =
    let l = c.loop in
    let all = naming_end l.invariant.0 c.loop-test.false in
    record { table = folded_end l.invariant.1 all; named = folded_end l.invariant.2 all }
