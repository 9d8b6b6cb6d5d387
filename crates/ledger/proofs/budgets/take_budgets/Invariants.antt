-- `take_budgets` meets its contract: one budget a turn.
use Prim.Native.Nat.{ℕ, ◌-◌}
use mathlib.Core.Path.{ap}
use lib.ListN.{set}
use Rattle.format.specs.Verdict.{content}
use Rattle.sections.specs.Sections.{budget_of}
use Rattle.ledger.specs.Accounts.{budget_place, budget_taken, marked_by}
use Rattle.ledger.proofs.Reading.{Folded, folded_none, folded_more, folded_end}
use Rattle.ledger.proofs.Naming.{Naming, naming_none, naming_next, naming_more, naming_end}
use borrow.Author.Rules.{rules}
use Rattle.ledger.proofs.budgets.take_budgets.Given as goal

abbrev pub invariant-loop : goal.invariant-loop
invariant-loop l =
    Naming l.book l.activities l.end l.counter l.marks l.next
    × Folded budget_taken l.initial.accounts (content l.book).budgets l.counter l.accounts
    × Folded (marked_by budget_place) l.initial.marks (content l.book).budgets l.counter l.marks
