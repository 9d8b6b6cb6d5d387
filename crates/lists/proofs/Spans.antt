-- Laws of the spans: what they hold, and what is made of each of their numbers. Assumes nothing.
use Prim.Native.Nat.{ℕ, zero, suc, ◌+◌, ◌≤◌, ◌<◌}
use mathlib.Core.Path.{◌≡◌, refl, sym, ap, ◌∙◌}
use mathlib.Core.Logic.{⊎_elim}
use mathlib.Core.List.Memᴰ
use mathlib.Core.List.{List, ◌∷◌, map, Memᴰ}
use native.Mathlib.Omega.{arith}
use native.Mathlib.Nat.{zero-add}
use native.Mathlib.Decide.{ℕ_discrete}
use lib.ListN.{length, get_or, length-map}
use lib.Seq.{ext_get_or}
use Rattle.lists.specs.Lists.{span}

pub span_length : (a n : ℕ) → length (span a n) ≡ n
unfolding span
span_length a zero = refl
span_length a (suc n) = ap suc (span_length (suc a) n)

pub span_in_lem : (a n d : ℕ) → Memᴰ d (span a n) → (a ≤ d) × (d < a + n)
unfolding span
span_in_lem a zero d m = absurd (Memᴰ.not-nil m)
span_in_lem a (suc n) d m = ⊎_elim (λ e. omega arith) (λ r. let h = span_in_lem (suc a) n d r in omega arith) (Memᴰ.cases_cons m)

pub in_span : (a n d : ℕ) → a ≤ d → d < a + n → Memᴰ d (span a n)
unfolding span
in_span a zero d h k = absurd (omega arith)
in_span a (suc n) d h k = go (ℕ_discrete d a) (in_span (suc a) n d)
  where
    go : Dec (d ≡ a) → (suc a ≤ d → d < suc a + n → Memᴰ d (span (suc a) n)) → Memᴰ d (a ∷ span (suc a) n)
    go (yes e) ih = Memᴰ.head e
    go (no e) ih = Memᴰ.tail (ih (omega arith) (omega arith))

-- made of each number of a span
pub made_from : {A : Type 0} (f : ℕ → A) (d : A) (a n i : ℕ) → i < n → get_or (map f (span a n)) i d ≡ f (a + i)
unfolding span
made_from f d a zero i h = absurd (omega arith)
made_from f d a (suc n) zero h = let e : a ≡ a + 0 = omega arith in ap f e
made_from f d a (suc n) (suc i) h = let e : suc a + i ≡ a + suc i = omega arith in made_from f d (suc a) n i (omega arith) ∙ ap f e

pub made_at : {A : Type 0} (f : ℕ → A) (d : A) (n i : ℕ) → i < n → get_or (map f (span 0 n)) i d ≡ f i
made_at f d n i h = let e : 0 + i ≡ i = omega arith in made_from f d 0 n i h ∙ ap f e

pub made_length : {A : Type 0} (f : ℕ → A) (n : ℕ) → length (map f (span 0 n)) ≡ n
made_length f n = length-map (span 0 n) f ∙ span_length 0 n

from_at : (a n i : ℕ) → i < n → get_or (span a n) i 0 ≡ a + i
unfolding span
from_at a zero i h = absurd (omega arith)
from_at a (suc n) zero h = omega arith
from_at a (suc n) (suc i) h = omega (arith, from_at (suc a) n i (omega arith))

pub span_at : (n i : ℕ) → i < n → get_or (span 0 n) i 0 ≡ i
span_at n i h = from_at 0 n i h ∙ zero-add i

-- a span is one from 0, moved
pub span_from : (a n : ℕ) → map (λ (k : ℕ). a + k) (span 0 n) ≡ span a n
span_from a n = ext_get_or 0 (map (λ (k : ℕ). a + k) (span 0 n)) (span a n) (made_length (λ k. a + k) n ∙ sym (span_length a n)) (λ k h. let l : k < n = omega (arith, made_length (λ (k : ℕ). a + k) n) in made_at (λ k. a + k) 0 n k l ∙ sym (from_at a n k l))

-- the elements of a list, by their places
pub elements : {A : Type 0} (xs : List A) (d : A) → map (λ (k : ℕ). get_or xs k d) (span 0 (length xs)) ≡ xs
elements {A} xs d = ext_get_or d (map at (span 0 (length xs))) xs (made_length at (length xs)) (λ k h. made_at at d (length xs) k (omega (arith, made_length at (length xs))))
  where
    at : ℕ → A
    at k = get_or xs k d
