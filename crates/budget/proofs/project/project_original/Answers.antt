-- `project_original` meets its contract: it is looked for, one budget a turn.
use Prim.Native.Nat.{ℕ}
use mathlib.Core.Path.{sym, ap, ◌∙◌}
use lib.ListN.{set}
use mir.Syntax.{w64}
use Rattle.integer.specs.Linear.{back}
use Rattle.format.specs.Book.{Budget}
use Rattle.sections.specs.Sections.{budget_of}
use Rattle.model.specs.Budgets.{budget_for}
use Rattle.ledger.proofs.Naming.{naming_none, naming_next, naming_more, naming_end}
use Rattle.budget.proofs.Sought.{seeking_none, seeking_more, seeking_found, seeking_end}
use Rattle.budget.proofs.project.project_original.Goals as goal

pub loop-init : goal.loop-init
loop-init c = (naming_none c.requires.budgets c.requires.marks_value, seeking_none _ _)

pub returns-then-is_project : goal.returns-then-is_project
unfolding budget_for budget_of
returns-then-is_project c =
    let got = c.next_budget-b in
    let e = naming_next c.loop.invariant.0 c.requires.budgets.most c.loop-test.true got.result got.ensures in
    back w64 got.result.original c.struct_told-1.given.1.0.1
    ∙ sym (ap (λ (b : Budget). b.original) (seeking_found c.loop.invariant.1 e (sym c.is_project.ensures ∙ c.if-is_project.true)))

pub loop-preserved : goal.loop-preserved
unfolding budget_of
loop-preserved c =
    let got = c.next_budget-b in
    let more = c.loop-test.true in
    let most = c.requires.budgets.most in (
      naming_more c.loop.invariant.0 most more got.result got.ensures (ap (λ (k : ℕ). set c.loop.marks k 1) c.account_number.ensures.0),
      seeking_more c.loop.invariant.1 (naming_next c.loop.invariant.0 most more got.result got.ensures) (sym c.is_project.ensures ∙ c.if-is_project.false),
    )

pub returns : goal.returns
unfolding budget_for
returns c =
    let l = c.loop in
    sym (ap (λ (b : Budget). b.original) (seeking_end l.invariant.1 (naming_end l.invariant.0 c.loop-test.false)))
