-- What planned value is made of: of each activity the span of its listed days and its calendar, as three numbers, row after row, and the budgets of the leaves.
use Rattle.std.specs.Prelude.{ℕ, ◌+◌, ◌*◌, cond, eqb, ℤ, pos, get_or, None, Option, Some}
use mathlib.Core.List.{List, [], ◌∷◌, map, flat_map}
use Rattle.format.specs.Book.{BaselineLine, Book}
use Rattle.model.specs.Lookup.{activity_at}
use Rattle.model.specs.Tree.{parents, indices, is_leaf}
use Rattle.model.specs.Planned.{line_of, budget_of}
use Rattle.spans.specs.Columns.{calendar_number}

-- ---- the listed days of an activity

-- what the line says, else x
abbrev pub by_line : {A : Type 0} → (BaselineLine → A) → Option BaselineLine → A → A
by_line f None x = x
by_line f (Some line) x = f line

abbrev pub start_of : BaselineLine → ℕ
start_of line = line.start

abbrev pub finish_of : BaselineLine → ℕ
finish_of line = line.finish

-- the first and the last date of the span whose day list are the listed days
unfoldable pub listed_first : Book → ℕ → ℕ
listed_first book i = by_line start_of (line_of book i) (activity_at book i).early_start

unfoldable pub listed_last : Book → ℕ → ℕ
listed_last book i = by_line finish_of (line_of book i) (activity_at book i).early_finish

-- the first date, the last and the calendar
unfoldable pub listed_row : Book → ℕ → List ℕ
listed_row book i = listed_first book i ∷ listed_last book i ∷ calendar_number (activity_at book i) ∷ []

unfoldable pub listed_of : Book → List ℕ
listed_of book = flat_map (listed_row book) (indices (parents book))

-- of activity i, in a table of such rows
abbrev pub first_at : List ℕ → ℕ → ℕ
first_at listed i = get_or listed (i * 3) 0

abbrev pub last_at : List ℕ → ℕ → ℕ
last_at listed i = get_or listed (i * 3 + 1) 0

abbrev pub number_at : List ℕ → ℕ → ℕ
number_at listed i = get_or listed (i * 3 + 2) 0

-- ---- the budgets

-- by a mark, which is 0 for a leaf
abbrev pub if_leaf : ℕ → ℤ → ℤ
if_leaf mark z = cond (eqb mark 0) z (pos 0)

-- what a function says of a leaf, 0 of a parent
abbrev pub of_leaf : Book → (ℕ → ℤ) → ℕ → ℤ
of_leaf book f i = cond (is_leaf (parents book) i) (f i) (pos 0)

unfoldable pub budgets_of : Book → List ℤ
budgets_of book = map (of_leaf book (budget_of book)) (indices (parents book))
