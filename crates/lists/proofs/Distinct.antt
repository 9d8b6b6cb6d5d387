-- Lists without two alike, and what is in lists made of lists. Assumes nothing.
use Prim.Native.Nat.{ℕ, zero, suc, ◌<◌}
use mathlib.Core.Path.{◌≡◌, refl, sym, subst}
use mathlib.Core.Logic.{◌⊎◌, inl, inr, ⊎_elim}
use mathlib.Core.List.Memᴰ
use mathlib.Core.List.{List, [], ◌∷◌, ◌++◌, flat_map, Memᴰ}
use native.Mathlib.Omega.{arith}
use lib.ListN.{length, get_or}
use Rattle.lists.proofs.Lists.{flat_in, got_in}

pub in_flat : {A B : Type 0} (f : B → List A) (x : A) (y : B) (ys : List B) → Memᴰ y ys → Memᴰ x (f y) → Memᴰ x (flat_map f ys)
unfolding flat_map
in_flat f x y [] m n = absurd (Memᴰ.not-nil m)
in_flat f x y (z ∷ zs) m n =
    ⊎_elim (λ e. Memᴰ.append_left (flat_map f zs) (subst (λ (w : _). Memᴰ x (f w)) e n)) (λ r. Memᴰ.append_right (f z) (in_flat f x y zs r n)) (Memᴰ.cases_cons m)

module _ {A : Type 0} where
  -- where it is
  pub place_of : (d x : A) (xs : List A) → Memᴰ x xs → (k : ℕ) × (k < length xs) × (get_or xs k d ≡ x)
  place_of d x [] m = absurd (Memᴰ.not-nil m)
  place_of d x (y ∷ ys) m = go (Memᴰ.cases_cons m) (place_of d x ys)
    where
      go : (x ≡ y) ⊎ Memᴰ x ys → (Memᴰ x ys → (k : ℕ) × (k < length ys) × (get_or ys k d ≡ x)) → (k : ℕ) × (k < suc (length ys)) × (get_or (y ∷ ys) k d ≡ x)
      go (inl e) ih = (0, omega arith, sym e)
      go (inr r) ih = let w = ih r in (suc w.0, omega (arith, w.1), w.2)

  abbrev pub Distinct : List A → Type 0
  Distinct [] = Unit {0}
  Distinct (x ∷ xs) = (Memᴰ x xs → ⊥) × Distinct xs

  distinct_append : (xs ys : List A) → Distinct xs → Distinct ys → ((z : A) → Memᴰ z xs → Memᴰ z ys → ⊥) → Distinct (xs ++ ys)
  distinct_append [] ys d e h = e
  distinct_append (x ∷ xs) ys d e h = (
    λ m. ⊎_elim d.0 (h x (Memᴰ.head refl)) (Memᴰ.append_cases xs m),
    distinct_append xs ys d.1 e (λ z m. h z (Memᴰ.tail m)),
  )

  -- no two places hold the same
  pub distinct_at : (d : A) (xs : List A) → Distinct xs → (j k : ℕ) → j < k → k < length xs → get_or xs j d ≡ get_or xs k d → ⊥
  distinct_at d [] s j k h l e = omega arith
  distinct_at d (x ∷ xs) s j zero h l e = omega arith
  distinct_at d (x ∷ xs) s zero (suc k) h l e = s.0 (Memᴰ.cast e (got_in xs d k (omega arith)))
  distinct_at d (x ∷ xs) s (suc j) (suc k) h l e = distinct_at d xs s.1 j k (omega arith) (omega arith) e

module _ {A B : Type 0} (f : B → List A) (each : (y : B) → Distinct (f y)) (apart : (x y : B) (z : A) → Memᴰ z (f x) → Memᴰ z (f y) → x ≡ y) where
  pub distinct_flat : (ys : List B) → Distinct ys → Distinct (flat_map f ys)
  unfolding flat_map
  distinct_flat [] d = tt
  distinct_flat (y ∷ ys) d =
      distinct_append (f y) (flat_map f ys) (each y) (distinct_flat ys d.1)
      (λ z m n. let w = flat_in f z ys n in d.0 (Memᴰ.cast (apart y w.0 z m w.2) w.1))
