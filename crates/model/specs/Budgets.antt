-- The money approved for the project and its parts, how it is handed down and planned, and who funds it. An account, to which money is booked, is an activity, or none for the project.
use Rattle.std.specs.Prelude.{ℕ, ◌+◌, Bool, not, ◌&&◌, ◌||◌, List, [], ◌∷◌, map, eqb, ℤ, pos, ◌+ℤ◌, length, get_or, None, Option, Some}
use Rattle.std.specs.Int.{w64}
use Rattle.integer.specs.Clamp.{clamp}
use Rattle.integer.specs.Folds.{saturated}
use Rattle.format.specs.declared.ChangeStatus.{ChangeStatus}
use Rattle.format.specs.declared.ChangeStatus.TheVariants.{Pending, Approved}
use Rattle.format.specs.Enumeration.{change_status_number}
use Rattle.format.specs.Book.{Budget, BudgetChange, Book}
use Rattle.format.specs.Format.{names}
use Rattle.lists.specs.Lists.{any, keep}
use Rattle.model.specs.Tree.{parents, parent_of, indices, is_leaf, steps_made}
use Rattle.model.specs.Costs.{cost_of, project_cost}
use Rattle.model.specs.Forecast.{less}

abbrev pub Account : Type 0
Account = Option ℕ

-- ---- what an account has

abbrev pub no_budget : Account → Budget
no_budget account = record { activity = account; original = pos 0; plan = [] }

-- the account's budget; an accepted book has one at most
unfoldable pub budget_for : Book → Account → Budget
budget_for book account = get_or (keep (λ (b : Budget). names b.activity account) book.budgets) 0 (no_budget account)

abbrev pub same_status : ChangeStatus → ChangeStatus → Bool
same_status a b = eqb (change_status_number a) (change_status_number b)

abbrev pub is_change : Account → ChangeStatus → BudgetChange → Bool
is_change account status c = names c.activity account && same_status c.status status

-- the log's changes of one status, added up
unfoldable pub changes : Book → ChangeStatus → Account → ℤ
changes book status account = saturated w64 (pos 0) (map (λ (c : BudgetChange). c.amount) (keep (is_change account status) book.log))

-- what was first approved, and the approved changes
unfoldable pub current_of : Book → Account → ℤ
current_of book account = clamp w64 ((budget_for book account).original +ℤ changes book Approved account)

-- the pending ones too
unfoldable pub proposed_of : Book → Account → ℤ
proposed_of book account = clamp w64 (current_of book account +ℤ changes book Pending account)

-- ---- who has a line

abbrev pub is_named : Book → Account → Bool
is_named book account =
    any (λ (b : Budget). names b.activity account) book.budgets || any (λ (c : BudgetChange). names c.activity account) book.log

-- every parent, and every activity with a budget or a line in the log
unfoldable pub has_line : Book → ℕ → Bool
has_line book i = not (is_leaf (parents book) i) || is_named book (Some i)

unfoldable pub line_accounts : Book → List ℕ
line_accounts book = keep (has_line book) (indices (parents book))

-- ---- the lines

pub record BudgetLine : Type 0 where
  pub activity : Account
  pub depth : ℕ
  pub original : ℤ
  pub current : ℤ
  pub proposed : ℤ
  pub distributed : ℤ
  pub planned : ℤ
  pub scheduled : ℤ

-- the current budgets of those right under the account
unfoldable pub distributed_of : Book → Account → ℤ
distributed_of book account =
    saturated w64 (pos 0) (map (λ (i : ℕ). current_of book (Some i)) (keep (λ (i : ℕ). names (parent_of (parents book) i) account) (line_accounts book)))

-- document 01's depth: 1 plus the steps that the walk made, at most as many as there are activities
unfoldable pub depth_of : Book → ℕ → ℕ
depth_of book i = 1 + steps_made (parents book) (length (parents book)) i

unfoldable pub line_for : Book → Account → ℕ → ℤ → BudgetLine
line_for book account depth scheduled = record {
  activity = account;
  depth = depth;
  original = (budget_for book account).original;
  current = current_of book account;
  proposed = proposed_of book account;
  distributed = distributed_of book account;
  planned = saturated w64 (pos 0) (budget_for book account).plan;
  scheduled = scheduled;
}

-- the project's line, then one for each activity that has one
unfoldable pub budget_lines : Book → List BudgetLine
budget_lines book =
    line_for book None 0 (project_cost book).budget ∷ map (λ (i : ℕ). line_for book (Some i) (depth_of book i) (cost_of book i).budget) (line_accounts book)

-- ---- funding

-- what the sources give
unfoldable pub funded : Book → ℤ
funded book = saturated w64 (pos 0) book.funds

-- what of the project's current budget they do not cover
unfoldable pub not_covered : Book → ℤ
not_covered book = less (current_of book None) (funded book)
