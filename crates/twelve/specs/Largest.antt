-- The largest of sums, and the rows with its mark.
use Rattle.std.specs.Prelude.{ℕ, ◌<◌, cond, List, [], ◌∷◌, eqb, ℤ, pos, get_or, ◌≤ℤ◌, ◌<ℤ◌}
use Rattle.money.specs.Words.{bits}
use Rattle.months.specs.Months.{first_day}
use Rattle.twelve.specs.Listed.{month_at}

abbrev pub sum_at : List ℤ → ℕ → ℤ
sum_at sums k = get_or sums k (pos 0)

-- of the first n sums none is larger than sum r, and those before it are smaller
pub record IsLargestAt (sums : List ℤ) (n r : ℕ) : Type 0 where
  pub inside : r < n
  pub most : (k : ℕ) → k < n → sum_at sums k ≤ℤ sum_at sums r
  pub first : (k : ℕ) → k < r → sum_at sums k <ℤ sum_at sums r

-- row k of the months from `first` on
abbrev pub summed_row : ℕ → ℕ → List ℤ → ℕ → List ℕ
summed_row first largest sums k = first_day (month_at first k) ∷ bits (sum_at sums k) ∷ cond (eqb k largest) 1 0 ∷ []
