-- A list that a loop sets element by element: what is set, with what is left, is the whole. Assumes nothing.
use Prim.Native.Nat.{ℕ, ◌+◌, ◌≤◌, ◌<◌}
use native.Mathlib.Numerals.{add-one}
use native.Mathlib.Omega.{arith}
use mathlib.Core.Path.{◌≡◌, sym, ap, ◌∙◌}
use mathlib.Core.List.{List, map}
use lib.ListN.{length, get_or, set, drop, length-set, length-map, drop_of_length-le}
use lib.Seq.{sets, drop-cons}
use Rattle.flat.proofs.Sets.{sets_whole}

-- the first i elements are set
pub record Mapped {A B : Type 0} (f : A → B) (xs : List A) (i : ℕ) (out : List B) : Type 0 where
  pub most : i ≤ length xs
  pub long : length out ≡ length xs
  pub rest : sets out i (map f (drop i xs)) ≡ map f xs

pub mapped_none : {A B : Type 0} (f : A → B) (xs : List A) (out : List B) → length out ≡ length xs → Mapped f xs 0 out
mapped_none f xs out e = record { most = omega arith; long = e; rest = sets_whole (map f xs) out (length-map xs f ∙ sym e) }

module _ {A B : Type 0} {f : A → B} {xs : List A} {i : ℕ} {out : List B} (w : Mapped f xs i out) where
  pub mapped_more : {y : B} (e : A) → i < length xs → y ≡ f (get_or xs i e) → Mapped f xs (i + 1) (set out i y)
  mapped_more {y} e h same =
      record {
        most = omega arith;
        long = length-set out i y ∙ w.long;
        rest = rw (add-one i, same) (sym (ap (λ (l : List A). sets out i (map f l)) (drop-cons xs i e h)) ∙ w.rest);
      }

  pub mapped_end : length xs ≤ i → out ≡ map f xs
  mapped_end h = ap (λ (l : List A). sets out i (map f l)) (sym (drop_of_length-le xs {i = i} h)) ∙ w.rest
