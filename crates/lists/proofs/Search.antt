-- A search through a list, one element at a time, and through lists made of others.
-- Assumes nothing.
use Prim.Native.Nat.{ℕ, suc, ◌+◌, ◌<◌}
use mathlib.Core.Path.{◌≡◌, refl, sym, ap, ◌∙◌}
use mathlib.Core.Logic.{◌⊎◌, inl, inr, ⊎_elim}
use mathlib.Core.Bool.{Bool, true, false, ◌||◌, or-true, false≢true}
use mathlib.Core.List.{List, [], ◌∷◌, ◌++◌, map}
use native.Mathlib.Omega.{arith}
use native.Mathlib.Numerals.{add-one}
use lib.ListN.{length, get_or, drop}
use lib.Seq.{drop-cons}
use Rattle.lists.specs.Lists.{any}

module _ {A : Type 0} (p : A → Bool) (xs : List A) (i : ℕ) (l : i < length xs) (x : A) where
  opened : any p (drop i xs) ≡ (p (get_or xs i x) || any p (drop (i + 1) xs))
  unfolding any
  opened = ap (any p) (drop-cons xs i x l ∙ ap (λ (n : ℕ). get_or xs i x ∷ drop n xs) (sym (add-one i)))

  pub hit : p (get_or xs i x) ≡ true → any p (drop i xs) ≡ true
  hit h = opened ∙ rw h

  pub miss : p (get_or xs i x) ≡ false → any p (drop (i + 1) xs) ≡ any p (drop i xs)
  miss h = sym (opened ∙ rw h)

-- ---- lists made of others

pub either : (a b : Bool) → (a || b) ≡ true → (a ≡ true) ⊎ (b ≡ true)
either true b e = inl refl
either false b e = inr e

module _ {A : Type 0} (p : A → Bool) where
  pub any_left : (xs ys : List A) → any p xs ≡ true → any p (xs ++ ys) ≡ true
  unfolding any
  any_left [] ys h = absurd (false≢true h)
  any_left (x ∷ xs) ys h = ⊎_elim (λ e. rw e) (λ e. rw (any_left xs ys e) (or-true (p x))) (either (p x) (any p xs) h)

  pub any_right : (xs ys : List A) → any p ys ≡ true → any p (xs ++ ys) ≡ true
  unfolding any
  any_right [] ys h = h
  any_right (x ∷ xs) ys h = rw (any_right xs ys h) (or-true (p x))

  pub any_either : (xs ys : List A) → any p (xs ++ ys) ≡ true → (any p xs ≡ true) ⊎ (any p ys ≡ true)
  unfolding any
  any_either [] ys h = inr h
  any_either (x ∷ xs) ys h =
      ⊎_elim (λ e. inl (rw e)) (λ e. ⊎_elim (λ l. inl (rw l (or-true (p x)))) inr (any_either xs ys e)) (either (p x) (any p (xs ++ ys)) h)

  -- what passes q is taken by f to what passes p
  pub any_map : {B : Type 0} (q : B → Bool) (f : B → A) → ((x : B) → q x ≡ true → p (f x) ≡ true) → (xs : List B) → any q xs ≡ true → any p (map f xs) ≡ true
  unfolding any
  any_map q f h [] e = absurd (false≢true e)
  any_map q f h (x ∷ xs) e =
      ⊎_elim (λ t. rw (h x t)) (λ t. rw (any_map q f h xs t) (or-true (p (f x)))) (either (q x) (any q xs) e)

  -- what passes has its place
  pub any_at : {R : Type 0} (d : A) (xs : List A) → ((k : ℕ) → k < length xs → p (get_or xs k d) ≡ true → R) → any p xs ≡ true → R
  unfolding any
  any_at d [] f h = absurd (false≢true h)
  any_at d (x ∷ xs) f h = ⊎_elim (f 0 (omega arith)) (any_at d xs (λ k l. f (suc k) (omega arith))) (either (p x) (any p xs) h)
