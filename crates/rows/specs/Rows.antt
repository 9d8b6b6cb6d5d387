-- Rows of numbers, row after row, as lent memory holds them.
use Rattle.std.specs.Prelude.{ℕ, None, Option, Some}
use mathlib.Core.List.{List, [], ◌∷◌, flat_map}

-- the numbers of the rows
unfoldable pub numbers : List (List ℕ) → List ℕ
numbers rows = flat_map (λ (row : List ℕ). row) rows

-- what may be absent: 0 and 0, or 1 and it
unfoldable pub optional : Option ℕ → List ℕ
optional None = 0 ∷ 0 ∷ []
optional (Some n) = 1 ∷ n ∷ []
