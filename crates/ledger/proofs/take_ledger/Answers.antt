-- `take_ledger` meets its contract: the budgets, then the log.
use mathlib.Core.Path.{ap, ◌∙◌}
use mathlib.Core.List.{List, foldl}
use Prim.Native.Nat.{ℕ}
use lib.IntN.{ℤ}
use lib.ListN.{length}
use Rattle.format.specs.Verdict.{content}
use Rattle.ledger.specs.Accounts.{budget_place, change_place, budget_taken, change_taken, marked_by}
use Rattle.ledger.proofs.Named.{marks_named, named_length}
use Rattle.ledger.proofs.Taken.{all_booked}
use borrow.Author.Rules.{rules}
use Rattle.ledger.proofs.take_ledger.Goals as goal

pub returns : goal.returns
returns c =
    let budgets = c.take_budgets.ensures in
    let log = c.take_changes.ensures in
    let b = content c.args.book.now in
    let n = c.args.activities in
    let listed = c.requires.budgets.0 in
    let logged = c.requires.budgets.1 in
    let figures = log.table ∙ ap (λ (t : List ℤ). foldl change_taken t b.log) (budgets.table ∙ ap (λ (t : List ℤ). foldl budget_taken t b.budgets) c.requires.accounts_value.0) in
    let marks = log.named ∙ ap (λ (m : List ℕ). foldl (marked_by change_place) m b.log) (budgets.named ∙ ap (λ (m : List ℕ). foldl (marked_by budget_place) m b.budgets) c.requires.accounts_value.1) in
    record {
      table = figures ∙ all_booked b n listed.most listed.ranges listed.named logged.ranges;
      long = ap length marks ∙ named_length b;
      named = rw marks (marks_named b n listed.most listed.ranges logged.ranges);
    }
