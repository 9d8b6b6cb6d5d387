-- A flat table of rows of one width that is changed row by row.
use Rattle.std.specs.Prelude.{ℕ, ◌+◌, ◌*◌, ◌≡◌, cond, eqb, length, get_or}
use mathlib.Core.List.{List, map, flat_map}
use Rattle.lists.specs.Lists.{span}

-- row i
unfoldable pub row_of : ℕ → List ℕ → ℕ → List ℕ
row_of width table i = map (λ (j : ℕ). get_or table (i * width + j) 0) (span 0 width)

-- each of the n rows as f says
unfoldable pub changed : ℕ → (ℕ → List ℕ → List ℕ) → ℕ → List ℕ → List ℕ
changed width f n table = flat_map (λ i. f i (row_of width table i)) (span 0 n)

-- of a table, row i alone is changed, as g says
pub record RowChanged (width i : ℕ) (g : List ℕ → List ℕ) (before after : List ℕ) : Type 0 where
  pub long : length after ≡ length before
  pub rows : (k : ℕ) → row_of width after k ≡ cond (eqb k i) (g (row_of width before k)) (row_of width before k)
