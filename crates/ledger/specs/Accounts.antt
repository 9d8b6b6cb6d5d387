-- The table of accounts: six figures for each, an activity at its index, the project at 500, behind all of them; and marks, 0 for none.
use Rattle.std.specs.Prelude.{ℕ, ◌+◌, ◌*◌, ◌<◌, ◌≡◌, Bool, not, cond, ltb, ℤ, pos, length, get_or, set, None, Some}
use mathlib.Core.List.{List, [], ◌∷◌, flat_map}
use Rattle.std.specs.Int.{w64}
use Rattle.integer.specs.Folds.{saturated}
use Rattle.format.specs.declared.ChangeStatus.TheVariants.{Pending, Approved, NotApproved}
use Rattle.format.specs.Enumeration.{change_status_number}
use Rattle.format.specs.Book.{Budget, BudgetChange, Book}
use Rattle.sections.specs.Sections.{mark_of}
use Rattle.lists.specs.Lists.{span, keep}
use Rattle.model.specs.Tree.{parents}
use Rattle.model.specs.Budgets.{Account, budget_for, changes, distributed_of, is_named, has_line}
use Rattle.tree.specs.Figures.{figure_of, saturating_add, add_at, is_unmarked}

-- ---- the table

-- whose row number k is
abbrev pub account_at : ℕ → Account
account_at k = cond (ltb k 500) (Some k) None

-- what was first approved, the plan added up, the changes by status in the order of the statuses' numbers, and what is distributed
unfoldable pub account_row : (Account → ℤ) → Book → Account → List ℤ
account_row distributed book account =
    (budget_for book account).original
    ∷ saturated w64 (pos 0) (budget_for book account).plan
    ∷ changes book Pending account
    ∷ changes book Approved account
    ∷ changes book NotApproved account
    ∷ distributed account
    ∷ []

unfoldable pub accounts_with : (Account → ℤ) → Book → List ℤ
accounts_with distributed book = flat_map (λ (k : ℕ). account_row distributed book (account_at k)) (span 0 501)

-- as the budgets and the log make it: nothing is distributed yet
abbrev pub booked : Book → List ℤ
booked book = accounts_with (λ (o : Account). pos 0) book

abbrev pub accounts : Book → List ℤ
accounts book = accounts_with (distributed_of book) book

-- figure j of account k
abbrev pub account_figure : List ℤ → ℕ → ℕ → ℤ
account_figure table k j = figure_of table (k * 6 + j)

-- the current budget: what was first approved, and the approved changes
abbrev pub current_in : List ℤ → ℕ → ℤ
current_in table k = saturating_add (account_figure table k 0) (account_figure table k 3)

-- ---- one budget, one change, one activity a turn

abbrev pub budget_place : Budget → ℕ
budget_place b = mark_of b.activity

abbrev pub change_place : BudgetChange → ℕ
change_place c = mark_of c.activity

abbrev pub budget_taken : List ℤ → Budget → List ℤ
budget_taken table b = set (set table (budget_place b * 6) b.original) (budget_place b * 6 + 1) (saturated w64 (pos 0) b.plan)

abbrev pub change_taken : List ℤ → BudgetChange → List ℤ
change_taken table c = add_at c.amount table (change_place c * 6 + (2 + change_status_number c.status))

-- the current budget of activity i, as `before` has it, given to its parent
abbrev pub given_up : List ℕ → List ℤ → List ℤ → ℕ → List ℤ
given_up parents before table i = add_at (current_in before i) table (get_or parents i 0 * 6 + 5)

-- ---- marks

-- the place of x marked
abbrev pub marked_by : {X : Type 0} → (X → ℕ) → List ℕ → X → List ℕ
marked_by place marks x = set marks (place x) 1

abbrev pub is_marked : List ℕ → ℕ → Bool
is_marked marks i = not (is_unmarked marks i)

-- those of the first n that are marked
abbrev pub marked_of : List ℕ → ℕ → List ℕ
marked_of marks n = keep (is_marked marks) (span 0 n)

-- the accounts that the budgets or the log name are marked
abbrev pub MarksNamed : List ℕ → Book → Type 0
MarksNamed marks book = (k : ℕ) → k < 501 → is_marked marks k ≡ is_named book (account_at k)

-- the activities that have a line are marked
abbrev pub MarksLines : List ℕ → Book → Type 0
MarksLines marks book = (i : ℕ) → i < length (parents book) → is_marked marks i ≡ has_line book i
