-- The numbers of rows: a table of figures in two's complement is the numbers of its rows.
use mathlib.Core.Path.{◌≡◌, sym, ap, ◌∙◌}
use mathlib.Core.List.{List, map, flat_map}
use Prim.Native.Nat.{ℕ}
use lib.IntN.{ℤ}
use Rattle.flat.proofs.Tables.{flat_map_map, flat_same, map_flat}
use Rattle.money.specs.Words.{bits}
use Rattle.rows.specs.Rows.{numbers}

module _ {A : Type 0} where
  pub numbers_flat : (row : A → List ℕ) (xs : List A) → numbers (map row xs) ≡ flat_map row xs
  unfolding numbers
  numbers_flat row xs = flat_map_map (λ (r : List ℕ). r) row xs

  -- the rows are the figures in two's complement
  pub numbers_made :
      (row : A → List ℕ) (figures : A → List ℤ) (xs : List A) → ((x : A) → row x ≡ map bits (figures x)) → {table : List ℤ} → table ≡ flat_map figures xs →
      map bits table ≡ numbers (map row xs)
  numbers_made row figures xs same e =
      ap (map bits) e ∙ map_flat bits figures xs ∙ flat_same (λ x. map bits (figures x)) row xs (λ x m. sym (same x)) ∙ sym (numbers_flat row xs)
