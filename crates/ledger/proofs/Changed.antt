-- A figure of a table, after a loop that changes figures, one element a turn.
use Prim.Native.Nat.{ℕ, ◌<◌}
use native.Mathlib.Omega.{arith}
use mathlib.Core.Path.{◌≡◌, refl, sym, ap, ap₂, ◌∙◌}
use mathlib.Core.Bool.{Bool, true, false, cond}
use mathlib.Core.List.{List, [], ◌∷◌, map, foldl, Memᴰ}
use lib.Dec.{eqb}
use lib.IntN.{ℤ, pos}
use lib.ListN.{length, set, length-set}
use lib.Seq.{get_or-set_same, get_or-set_other}
use mir.Syntax.{w64}
use borrow.Author.Tests.{eqb-true, eqb-false}
use Rattle.integer.specs.Folds.{saturated}
use Rattle.lists.specs.Lists.{cons_if, keep}
use Rattle.tree.specs.Figures.{figure_of, saturating_add, add_at}

-- two tests that agree on what is in the list
pub kept_alike : {A : Type 0} (p q : A → Bool) (xs : List A) → ((x : A) → Memᴰ x xs → p x ≡ q x) → keep p xs ≡ keep q xs
unfolding keep
kept_alike p q [] h = refl
kept_alike {A} p q (x ∷ xs) h =
    ap₂ (λ (b : Bool) (l : List A). cons_if b x l) (h x (Memᴰ.head refl)) (kept_alike p q xs (λ y m. h y (Memᴰ.tail m)))

-- one figure set
pub set_figure : (t : List ℤ) (q p : ℕ) (z : ℤ) → p < length t → figure_of (set t q z) p ≡ cond (eqb q p) z (figure_of t p)
set_figure t q p z h = go (eqb q p) refl
  where
    go : (b : Bool) → eqb q p ≡ b → figure_of (set t q z) p ≡ cond b z (figure_of t p)
    go true e = let same : q ≡ p = eqb-true q p e in rw same (get_or-set_same t p z (pos 0) h)
    go false e = get_or-set_other t q p z (pos 0) (λ s. eqb-false q p e (sym s))

module _ {X : Type 0} (step : List ℤ → X → List ℤ) (keeps : (t : List ℤ) (x : X) → length (step t x) ≡ length t) where
  pub folded_length : (t : List ℤ) (xs : List X) → length (foldl step t xs) ≡ length t
  folded_length t [] = refl
  folded_length t (x ∷ xs) = folded_length (step t x) xs ∙ keeps t x

  -- figure p is changed by those that hit it
  pub folded_at :
      (p : ℕ) (hits : X → Bool) (change : ℤ → X → ℤ) (t : List ℤ) (xs : List X) → p < length t →
      ((x : X) → Memᴰ x xs → (t : List ℤ) → p < length t → figure_of (step t x) p ≡ cond (hits x) (change (figure_of t p) x) (figure_of t p)) →
      figure_of (foldl step t xs) p ≡ foldl change (figure_of t p) (keep hits xs)
  unfolding keep
  folded_at p hits change t [] h acts = refl
  folded_at p hits change t (x ∷ xs) h acts =
      folded_at p hits change (step t x) xs (omega (arith, keeps t x)) (λ y m. acts y (Memᴰ.tail m))
      ∙ ap (λ (z : ℤ). foldl change z (keep hits xs)) (acts x (Memᴰ.head refl) t h)
      ∙ go (hits x)
    where
      go : (b : Bool) → foldl change (cond b (change (figure_of t p) x) (figure_of t p)) (keep hits xs) ≡ foldl change (figure_of t p) (cons_if b x (keep hits xs))
      go true = refl
      go false = refl

-- ---- where each adds an amount at a place

module _ {X : Type 0} (place : X → ℕ) (amount : X → ℤ) where
  abbrev adding : List ℤ → X → List ℤ
  adding t x = add_at (amount x) t (place x)

  keeps : (t : List ℤ) (x : X) → length (adding t x) ≡ length t
  keeps t x = length-set t (place x) (saturating_add (figure_of t (place x)) (amount x))

  pub added_length : (t : List ℤ) (xs : List X) → length (foldl adding t xs) ≡ length t
  added_length t xs = folded_length adding keeps t xs

  all_added : (z : ℤ) (xs : List X) → foldl (λ (s : ℤ) (x : X). saturating_add s (amount x)) z xs ≡ saturated w64 z (map amount xs)
  unfolding saturated
  all_added z [] = refl
  all_added z (x ∷ xs) = all_added (saturating_add z (amount x)) xs

  acts : (p : ℕ) (x : X) (t : List ℤ) → p < length t → figure_of (adding t x) p ≡ cond (eqb (place x) p) (saturating_add (figure_of t p) (amount x)) (figure_of t p)
  acts p x t h = set_figure t (place x) p (saturating_add (figure_of t (place x)) (amount x)) h ∙ go (eqb (place x) p) refl
    where
      go :
          (b : Bool) → eqb (place x) p ≡ b →
          cond b (saturating_add (figure_of t (place x)) (amount x)) (figure_of t p) ≡ cond b (saturating_add (figure_of t p) (amount x)) (figure_of t p)
      go true e = ap (λ (q : ℕ). saturating_add (figure_of t q) (amount x)) (eqb-true (place x) p e)
      go false e = refl

  -- figure p has the amounts of those that hit it added
  pub added_at :
      (p : ℕ) (hits : X → Bool) (t : List ℤ) (xs : List X) → p < length t → ((x : X) → Memᴰ x xs → eqb (place x) p ≡ hits x) →
      figure_of (foldl adding t xs) p ≡ saturated w64 (figure_of t p) (map amount (keep hits xs))
  added_at p hits t xs h e =
      folded_at adding keeps p hits (λ (z : ℤ) (x : X). saturating_add z (amount x)) t xs h
      (λ x m t l. acts p x t l ∙ ap (λ (b : Bool). cond b (saturating_add (figure_of t p) (amount x)) (figure_of t p)) (e x m))
      ∙ all_added (figure_of t p) (keep hits xs)
