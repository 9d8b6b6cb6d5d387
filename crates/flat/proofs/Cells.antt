-- The cells of a table of rows of one width: number j of row i stands at i * width + j. Assumes nothing.
use Prim.Native.Nat.{ℕ, suc, ◌+◌, ◌*◌, ◌/◌, ◌%◌, ◌≤◌, ◌<◌}
use native.Mathlib.Nat.{mul-le-mul_right, mod-lt, div-add-mod', div-lt_iff_lt-mul}
use native.Mathlib.Decide.{dec_lt}
use native.Mathlib.Omega.{arith}
use mathlib.Core.Path.{◌≡◌, sym, ap, ◌∙◌}
use mathlib.Core.Logic.{◌⊎◌, inl, inr}
use mathlib.Core.List.{List}
use lib.ListN.{length, get_or}
use lib.Seq.{ext_get_or}

-- a row is inside the table
pub row_inside : {i n : ℕ} (width : ℕ) → i < n → i * width + width ≤ n * width
row_inside {i} {n} width h = let m : suc i * width ≤ n * width = mul-le-mul_right width h in omega arith

-- a cell is inside the table
pub cell_inside : {i j n width : ℕ} → i < n → j < width → i * width + j < n * width
cell_inside {width = width} h l = omega (arith, row_inside width h)

-- a cell of another row stands before a row or behind it
pub cell_apart : {j width : ℕ} (p q : ℕ) → j < width → (p ≡ q → ⊥) → (p * width + j < q * width) ⊎ (q * width + width ≤ p * width + j)
cell_apart {j} {width} p q h d = go (dec_lt p q)
  where
    go : Dec (p < q) → (p * width + j < q * width) ⊎ (q * width + width ≤ p * width + j)
    go (yes l) = inl (omega (arith, row_inside width l))
    go (no l) = let m : q < p = omega (arith, d) in inr (omega (arith, row_inside width m))

-- two tables of n rows with the same cells are one
pub same_cells :
    {B : Type 0} (n width : ℕ) (d : B) (xs ys : List B) → length xs ≡ n * width → length ys ≡ n * width →
    ((i j : ℕ) → i < n → j < width → get_or xs (i * width + j) d ≡ get_or ys (i * width + j) d) → xs ≡ ys
same_cells n width d xs ys a b h = ext_get_or d xs ys (a ∙ sym b) (λ k l. at k (omega arith) (dec_lt 0 width))
  where
    at : (k : ℕ) → k < n * width → Dec (0 < width) → get_or xs k d ≡ get_or ys k d
    at k l (yes w) =
        let split : k / width * width + k % width ≡ k = div-add-mod' k width in
        let below : k / width < n = (div-lt_iff_lt-mul {k = width} {x = k} {y = n} w).1 l in
        ap (λ (m : ℕ). get_or xs m d) (sym split) ∙ h (k / width) (k % width) below (mod-lt k w) ∙ ap (λ (m : ℕ). get_or ys m d) split
    at k l (no w) =
        let z : width ≡ 0 = omega arith in
        let none : n * width ≡ n * 0 = ap (λ (m : ℕ). n * m) z in
        absurd (omega arith)
