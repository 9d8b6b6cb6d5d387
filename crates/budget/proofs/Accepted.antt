-- An accepted book: its budgets and its log, its parents, and what its lists need.
use Rattle.std.specs.Prelude.{Option, ℕ}
use Prim.Native.Nat.{ℕ}
use native.Mathlib.Omega.{arith}
use mathlib.Core.Path.{◌≡◌, sym, ◌∙◌}
use mathlib.Core.List.{List, map}
use lib.ListN.{length}
use Rattle.format.specs.Book.{Book}
use Rattle.format.specs.Verdict.{content}
use Rattle.format.proofs.Theorems.{content_in_range}
use Rattle.book.specs.declared.layout.Plan.{Plan}
use Rattle.book.specs.declared.layout.Ledger.{Ledger}
use Rattle.book.specs.Plan.{IsPlanOf, IsLedgerOf}
use Rattle.book.proofs.Plan.{activities_count, activities_most, budgets_in_range, log_in_range}
use Rattle.model.specs.Tree.{parents}
use Rattle.model.proofs.Tree.{parents_count as Named-count}
use Rattle.spans.specs.Columns.{parent_number}
use Rattle.ledger.specs.Arguments.{IsBudgets, IsLog, AreParents}
use Rattle.ledger.proofs.Handed.{above_length}

-- as many numbers as parents
pub numbers_parents : {book : Book} {numbers : List ℕ} → AreParents book numbers → length numbers ≡ length (parents book)
numbers_parents {book} w = above_length w ∙ sym (Named-count book)

module _ {s : List ℕ} {date : Option ℕ} {plan : Plan} (p : IsPlanOf s date plan) where
  pub parents_count : length (parents (content s)) ≡ plan.activities.count
  parents_count = Named-count (content s) ∙ activities_count p

  pub plan_parents : {numbers : List ℕ} → numbers ≡ map parent_number (content s).activities → AreParents (content s) numbers
  unfolding parent_number
  plan_parents e = record { most = omega (arith, activities_count p, activities_most p); above = e; inside = λ i d h. ((content_in_range s p.accepted).activities i d h).parent }

  module _ {ledger : Ledger} (l : IsLedgerOf s plan ledger) where
    pub plan_budgets : IsBudgets s ledger.budgets plan.activities.count
    plan_budgets = record { most = activities_most p; listed = l.budgets; ranges = budgets_in_range p; named = (content_in_range s p.accepted).named }

    pub plan_log : IsLog s ledger.log plan.activities.count
    plan_log = record { most = activities_most p; listed = l.log; ranges = log_in_range p }
