-- A date on which something falls, and what follows from that.
use Prim.Native.Nat.{ℕ}
use mathlib.Core.Path.{◌≡◌, refl, sym, ap}
use mathlib.Core.Bool.{Bool, true, false, true≢false, ◌||◌}
use mathlib.Core.List.{List, [], ◌∷◌, ◌++◌, flat_map, zip_with, Memᴰ}
use borrow.Author.Tests.{eqb-true}
use lib.Dec.{eqb}
use lib.IntN.{ℤ}
use Rattle.lists.specs.Lists.{any}
use Rattle.model.specs.Amounts.{Dated, dated, is_dated, is_charged}

either : {P : Type 0} (a b : Bool) → (a ≡ true → P) → (b ≡ true → P) → (a || b) ≡ true → P
either true b f g e = f refl
either false b f g e = g e

module _ (d : ℕ) {P : Type 0} where
  charged_append : (xs ys : List Dated) → (is_charged xs d ≡ true → P) → (is_charged ys d ≡ true → P) → is_charged (xs ++ ys) d ≡ true → P
  unfolding is_charged any
  charged_append [] ys f g e = g e
  charged_append (x ∷ xs) ys f g e =
      either (is_dated d x) (any (is_dated d) (xs ++ ys)) (λ h. f (ap (λ (b : Bool). b || any (is_dated d) xs) h)) (charged_append xs ys (λ h. f (late (is_dated d x) h)) g) e
    where
      late : (b : Bool) → any (is_dated d) xs ≡ true → (b || any (is_dated d) xs) ≡ true
      late true h = refl
      late false h = h

  pub charged_some : {A : Type 0} (f : A → List Dated) (xs : List A) → ((x : A) → Memᴰ x xs → is_charged (f x) d ≡ true → P) → is_charged (flat_map f xs) d ≡ true → P
  unfolding flat_map is_charged any
  charged_some f [] h e = absurd (true≢false (sym e))
  charged_some f (x ∷ xs) h e = charged_append (f x) (flat_map f xs) (h x (Memᴰ.head refl)) (charged_some f xs (λ y m. h y (Memᴰ.tail m))) e

  pub charged_dated : (days : List ℕ) (zs : List ℤ) → (Memᴰ d days → P) → is_charged (dated days zs) d ≡ true → P
  unfolding is_charged any zip_with
  charged_dated [] zs h e = absurd (true≢false (sym e))
  charged_dated (x ∷ days) [] h e = absurd (true≢false (sym e))
  charged_dated (x ∷ days) (z ∷ zs) h e =
      either (eqb x d) (any (is_dated d) (dated days zs)) (λ q. h (Memᴰ.head (sym (eqb-true x d q)))) (charged_dated days zs (λ m. h (Memᴰ.tail m))) e
