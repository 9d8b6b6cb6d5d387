-- The rows of the periods, from the figures that their records make: of each whether a record is stored, the earned value to date and the actual cost to date.
use Rattle.std.specs.Prelude.{ℕ, ◌+◌, ◌*◌, cond, eqb, ℤ, get_or}
use mathlib.Core.List.{List, [], ◌∷◌, foldl}
use Rattle.format.specs.Book.{PeriodRecord}
use Rattle.money.specs.Words.{bits}
use Rattle.model.specs.Periods.{actual_in}
use Rattle.tree.specs.Figures.{figure_of, is_unmarked}
use Rattle.todate.specs.Figures.{entered}

-- figure j of period p with a record; one of a parent does not count
abbrev pub recorded_one : List ℕ → List ℕ → PeriodRecord → ℕ → ℕ → ℤ → ℤ
recorded_one marks finishes r p j z = cond (is_unmarked marks r.activity) (entered finishes r.period r.earned (actual_in r) p j z) z

-- with all of these, in their order
unfoldable pub recorded : List ℕ → List ℕ → List PeriodRecord → ℕ → ℕ → ℤ → ℤ
recorded marks finishes rs p j z = foldl (λ (y : ℤ) (r : PeriodRecord). recorded_one marks finishes r p j y) z rs

-- a figure's bits, 0 where nothing is stored
abbrev pub if_stored : ℤ → ℤ → ℕ
if_stored stored z = cond (eqb (bits stored) 0) 0 (bits z)

abbrev pub point_row : ℕ → ℕ → ℤ → ℤ → ℤ → ℤ → List ℕ
point_row p finish planned stored earned actual =
    p ∷ finish ∷ bits planned ∷ bits stored ∷ if_stored stored earned ∷ bits stored ∷ if_stored stored actual ∷ []

-- period p, from when the periods close, the planned values then, and their figures
unfoldable pub point_at : List ℕ → List ℤ → List ℤ → ℕ → List ℕ
point_at finishes planned figures p =
    point_row p (get_or finishes p 0) (figure_of planned p) (figure_of figures (p * 3)) (figure_of figures (p * 3 + 1)) (figure_of figures (p * 3 + 2))
