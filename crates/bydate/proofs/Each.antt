-- What indices give, one after the other.
use Prim.Native.Nat.{ℕ, suc, ◌+◌, ◌-◌, ◌≤◌, ◌<◌}
use mathlib.Core.Path.{◌≡◌, ap, ◌∙◌}
use mathlib.Core.List.{List, [], ◌++◌, flat_map}
use native.Mathlib.Omega.{arith}
use Rattle.lists.specs.Lists.{span}

module _ {A : Type 0} (f : ℕ → List A) (n : ℕ) where
  -- those from i on, of n
  abbrev pub each_from : ℕ → List A
  each_from i = flat_map f (span i (n - i))

  pub each_next : (i : ℕ) → i < n → each_from i ≡ f i ++ each_from (i + 1)
  unfolding flat_map span
  each_next i h =
      let e : n - i ≡ suc (n - (i + 1)) = omega arith in
      let g : suc i ≡ i + 1 = omega arith in
      ap (λ (m : ℕ). flat_map f (span i m)) e ∙ ap (λ (j : ℕ). f i ++ flat_map f (span j (n - (i + 1)))) g

  pub each_end : (i : ℕ) → n ≤ i → each_from i ≡ []
  unfolding flat_map span
  each_end i h = let e : n - i ≡ 0 = omega arith in ap (λ (m : ℕ). flat_map f (span i m)) e
