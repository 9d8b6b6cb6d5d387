-- Sums that saturate at each step, from the left; and where they are exact. Assumes nothing.
use Rattle.std.specs.Prelude.{◌≡◌, ℕ, ◌+◌, ◌≤◌, ℤ, pos, nat_abs, ◌+ℤ◌}
use Rattle.std.proofs.Math.Path.{refl, sym, ap}
use Rattle.std.proofs.Common.{◌∙◌, arith}
use mathlib.Core.List.{List, [], ◌∷◌, ◌++◌}
use Rattle.std.proofs.Math.IntN.{+ℤ_assoc, +ℤ_idl, +ℤ_idr}
use Rattle.std.specs.Int.{Width}
use Rattle.integer.specs.Clamp.{most, clamp, clamp_small}
use Rattle.integer.specs.Sums.{ints, total, abs_plus}

-- s and then each number of the list, clamped at each step
unfoldable pub saturated : Width → ℤ → List ℤ → ℤ
saturated w s [] = s
saturated w s (x ∷ xs) = saturated w (clamp w (s +ℤ x)) xs

-- the magnitudes of a list, added up
unfoldable pub magnitudes : List ℤ → ℕ
magnitudes [] = 0
magnitudes (x ∷ xs) = nat_abs x + magnitudes xs

module _ (w : Width) where
  pub saturated_append : (s : ℤ) (xs ys : List ℤ) → saturated w s (xs ++ ys) ≡ saturated w (saturated w s xs) ys
  unfolding saturated
  saturated_append s [] ys = refl
  saturated_append s (x ∷ xs) ys = saturated_append (clamp w (s +ℤ x)) xs ys

  -- ---- where the magnitudes add up to no more than the largest number, nothing saturates
  exact_from : (s : ℤ) (xs : List ℤ) → nat_abs s + magnitudes xs ≤ most w → saturated w s xs ≡ s +ℤ total ints xs
  unfolding saturated magnitudes total
  exact_from s [] h = sym (+ℤ_idr s)
  exact_from s (x ∷ xs) h =
      ap (λ (t : ℤ). saturated w t xs) (clamp_small w (s +ℤ x) (omega (arith, abs_plus s x)))
      ∙ exact_from (s +ℤ x) xs (omega (arith, abs_plus s x))
      ∙ +ℤ_assoc s x (total ints xs)

  pub exact : (xs : List ℤ) → magnitudes xs ≤ most w → saturated w (pos 0) xs ≡ total ints xs
  exact xs h = exact_from (pos 0) xs (omega arith) ∙ +ℤ_idl (total ints xs)
