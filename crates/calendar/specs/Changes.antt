-- Tables of figures, one row of a width behind the other: what is changed in them.
use Rattle.std.specs.Prelude.{ℕ, ◌+◌, ◌*◌, ◌<◌, ◌≡◌, cond, List, eqb, ltb, ℤ, pos, length, get_or}

-- figure j of row i, changed by what g says of it
pub record Changed (width : ℕ) (g : ℕ → ℕ → ℤ → ℤ) (before after : List ℤ) : Type 0 where
  pub long : length after ≡ length before
  pub at :
      (i j : ℕ) → j < width → i * width + j < length before →
      get_or after (i * width + j) (pos 0) ≡ g i j (get_or before (i * width + j) (pos 0))

-- the rows that have the calendar of this number are changed
abbrev pub of_calendar : (ℕ → ℕ) → ℕ → (ℕ → ℕ → ℤ → ℤ) → ℕ → ℕ → ℤ → ℤ
of_calendar calendar k g i j z = cond (eqb (calendar i) k) (g i j z) z

-- those that have one of the first k
abbrev pub of_first : (ℕ → ℕ) → ℕ → (ℕ → ℕ → ℤ → ℤ) → ℕ → ℕ → ℤ → ℤ
of_first calendar k g i j z = cond (ltb (calendar i) k) (g i j z) z

-- one row is changed
abbrev pub of_row : ℕ → (ℕ → ℤ → ℤ) → ℕ → ℕ → ℤ → ℤ
of_row a f i j z = cond (eqb a i) (f j z) z

-- and of that one figure
abbrev pub of_figure : ℕ → (ℤ → ℤ) → ℕ → ℤ → ℤ
of_figure c f j z = cond (eqb c j) (f z) z
