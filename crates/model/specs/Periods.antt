-- The financial periods, each by its index: the planned value at its close and, once records of it are stored, the earned value and the actual cost to date.
use Rattle.std.specs.Prelude.{ℕ, Bool, cond, ◌&&◌, List, map, eqb, leb, ℤ, pos, ◌+ℤ◌, length, get_or, None, Option, Some}
use Rattle.std.specs.Int.{w64}
use Rattle.integer.specs.Clamp.{clamp}
use Rattle.integer.specs.Folds.{saturated}
use Rattle.format.specs.Book.{PeriodRecord, Book}
use Rattle.lists.specs.Lists.{any, span, keep}
use Rattle.model.specs.Tree.{parents, is_leaf}
use Rattle.model.specs.Earned.{project_earned}

pub record PeriodPoint : Type 0 where
  pub period : ℕ
  pub finish : ℕ
  pub planned : ℤ
  pub earned : Option ℤ
  pub actual : Option ℤ

abbrev pub finish_of : Book → ℕ → ℕ
finish_of book p = get_or book.periods p 0

-- the actual cost in a record, every kind together
unfoldable pub actual_in : PeriodRecord → ℤ
actual_in r = clamp w64 (clamp w64 (clamp w64 (r.labor +ℤ r.nonlabor) +ℤ r.material) +ℤ r.expense)

abbrev pub of_leaf : Book → PeriodRecord → Bool
of_leaf book r = is_leaf (parents book) r.activity

-- a leaf's record of this very period is stored
unfoldable pub is_stored : Book → ℕ → Bool
is_stored book p = any (λ (r : PeriodRecord). eqb r.period p && of_leaf book r) book.records

-- to date: the leaves' records of all periods that close no later
unfoldable pub records_to_date : Book → ℕ → List PeriodRecord
records_to_date book p = keep (λ (r : PeriodRecord). leb (finish_of book r.period) (finish_of book p) && of_leaf book r) book.records

-- absent where nothing is stored
unfoldable pub to_date : Book → (PeriodRecord → ℤ) → ℕ → Option ℤ
to_date book figure p = cond (is_stored book p) (Some (saturated w64 (pos 0) (map figure (records_to_date book p)))) None

unfoldable pub period_point : Book → ℕ → PeriodPoint
period_point book p = record {
  period = p;
  finish = finish_of book p;
  planned = (project_earned book (finish_of book p)).planned;
  earned = to_date book (λ (r : PeriodRecord). r.earned) p;
  actual = to_date book actual_in p;
}

-- document 01's `period_points`
unfoldable pub period_points : Book → List PeriodPoint
period_points book = map (period_point book) (span 0 (length book.periods))
