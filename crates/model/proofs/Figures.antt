-- One figure of rows that are added figure by figure, each with saturation: its saturating sum, in 64 bits; short of saturation the exact one.
use mathlib.Core.Path.{◌≡◌, refl, sym, ap, ◌∙◌}
use mathlib.Core.Bool.{Bool, true, false, cond}
use mathlib.Core.List.{List, [], ◌∷◌, map, foldl}
use Prim.Native.Nat.{◌≤◌}
use native.Mathlib.Omega.{arith}
use lib.IntN.{ℤ, ◌+ℤ◌, +ℤ_idl}
use mir.Syntax.{w64}
use mir.Val.{SFits}
use Rattle.lists.specs.Lists.{cons_if, keep}
use Rattle.integer.specs.Clamp.{most, clamp, clamp_small}
use Rattle.integer.specs.Sums.{ints, total}
use Rattle.integer.specs.Folds.{saturated, magnitudes, exact}
use Rattle.model.proofs.Saturating.{saturated_fits}

module _ {Row : Type 0} (add : Row → Row → Row) where
  abbrev pub FigureOf : (Row → ℤ) → Type 0
  FigureOf f = (a b : Row) → f (add a b) ≡ clamp w64 (f a +ℤ f b)

  module _ (f : Row → ℤ) (g : FigureOf f) where
    pub added_saturated : (a : Row) (rows : List Row) → f (foldl add a rows) ≡ saturated w64 (f a) (map f rows)
    unfolding saturated
    added_saturated a [] = refl
    added_saturated a (b ∷ rows) = added_saturated (add a b) rows ∙ ap (λ (s : ℤ). saturated w64 s (map f rows)) (g a b)

    pub added_fits : (a : Row) (rows : List Row) → SFits w64 (f a) → SFits w64 (f (foldl add a rows))
    added_fits a rows h = rw (added_saturated a rows) (saturated_fits w64 (f a) h (map f rows))

    pub added_exact : (a : Row) (rows : List Row) → magnitudes (map f (a ∷ rows)) ≤ most w64 → f (foldl add a rows) ≡ total ints (map f (a ∷ rows))
    unfolding saturated magnitudes
    added_exact a rows h =
        added_saturated a rows
        ∙ ap (λ (s : ℤ). saturated w64 s (map f rows)) (sym (ap (clamp w64) (+ℤ_idl (f a)) ∙ clamp_small w64 (f a) (omega arith)))
        ∙ exact w64 (map f (a ∷ rows)) h

module _ {A : Type 0} where
  -- what is added only where a test holds is added for those that pass it
  pub saturated_kept : (p : A → Bool) (f : A → ℤ) (s : ℤ) (xs : List A) → foldl (λ (t : ℤ) (x : A). cond (p x) (clamp w64 (t +ℤ f x)) t) s xs ≡ saturated w64 s (map f (keep p xs))
  unfolding saturated keep
  saturated_kept p f s [] = refl
  saturated_kept p f s (x ∷ xs) = saturated_kept p f (cond (p x) (clamp w64 (s +ℤ f x)) s) xs ∙ go (p x)
    where
      go : (b : Bool) → saturated w64 (cond b (clamp w64 (s +ℤ f x)) s) (map f (keep p xs)) ≡ saturated w64 s (map f (cons_if b x (keep p xs)))
      go true = refl
      go false = refl
