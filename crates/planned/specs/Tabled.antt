-- The days that a table lists for the listed spans; the table has `width` dates a row, from `base` on.
use Rattle.std.specs.Prelude.{ℕ, ◌*◌, ◌≤◌, ◌<◌, ◌≡◌, List, length}
use Rattle.laid.specs.Listed.{listed_between, Covers}
use Rattle.baseline.specs.Listed.{first_at, last_at, number_at}

-- the days that are listed for span i
abbrev pub tabled : ℕ → ℕ → List ℕ → List ℕ → ℕ → List ℕ
tabled base width days listed i = listed_between (number_at listed i * width) base days (first_at listed i) (last_at listed i)

-- each of n spans is within its calendar's row
pub record AreTabled (base width n : ℕ) (days listed : List ℕ) : Type 0 where
  pub most : n ≤ 500
  pub wide : width ≤ 47482
  pub long : length listed ≡ n * 3
  pub few : (i : ℕ) → i < n → number_at listed i ≤ 16
  pub covers : (i : ℕ) → i < n → Covers (number_at listed i * width) base days (first_at listed i) (last_at listed i)
