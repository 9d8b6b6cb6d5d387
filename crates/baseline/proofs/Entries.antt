-- A column: what a loop that sets an entry a turn keeps.
use Prim.Native.Nat.{ℕ, ◌+◌, ◌≤◌, ◌<◌}
use native.Mathlib.Omega.{arith}
use native.Mathlib.Decide.{dec_lt}
use mathlib.Core.Path.{◌≡◌, refl, sym, ◌∙◌}
use mathlib.Core.List.{List, map}
use lib.ListN.{length, get_or, set, length-set, get_or-eq_default}
use lib.Seq.{get_or-set_same, get_or-set_other, ext_get_or}
use Rattle.lists.specs.Lists.{span}
use Rattle.lists.proofs.Spans.{made_length, made_at}

-- ---- a column of what a function says of each index

module _ {A : Type 0} (f : ℕ → A) where
  pub entries_are : (d : A) (t : List A) (n : ℕ) → length t ≡ n → ((i : ℕ) → i < n → get_or t i d ≡ f i) → t ≡ map f (span 0 n)
  entries_are d t n l h = ext_get_or d t (map f (span 0 n)) (l ∙ sym (made_length f n)) (λ i k. h i (omega arith) ∙ sym (made_at f d n i (omega arith)))

-- ---- the loop

module _ {A : Type 0} (d : A) (f : ℕ → A) (t₀ : List A) where
  -- the first i entries are what f says, the others as they were
  pub record Entered (i : ℕ) (t : List A) : Type 0 where
    pub long : length t ≡ length t₀
    pub done : (j : ℕ) → j < i → get_or t j d ≡ f j
    pub left : (j : ℕ) → i ≤ j → get_or t j d ≡ get_or t₀ j d

  pub entered_none : Entered 0 t₀
  entered_none = record { long = refl; done = λ j h. absurd (omega arith); left = λ j h. refl }

module _ {A : Type 0} {d : A} {f : ℕ → A} {t₀ : List A} {i : ℕ} {t : List A} (w : Entered d f t₀ i t) where
  pub entered_more : i < length t₀ → {u : List A} {v : A} → u ≡ set t i v → v ≡ f i → Entered d f t₀ (i + 1) u
  entered_more h {u} {v} e g =
      let room : i < length t = omega (arith, w.long) in
      record {
        long = rw e (length-set t i v ∙ w.long);
        done = λ j k. rw e (go room j k (dec_lt j i));
        left = λ j k. rw e (get_or-set_other t i j v d (λ q. absurd (omega arith)) ∙ w.left j (omega arith));
      }
    where
      go : i < length t → (j : ℕ) → j < i + 1 → Dec (j < i) → get_or (set t i v) j d ≡ f j
      go room j k (yes b) = get_or-set_other t i j v d (λ q. absurd (omega arith)) ∙ w.done j b
      go room j k (no b) = let same : j ≡ i = omega arith in rw same (get_or-set_same t i v d room ∙ g)

  pub entered_end : {n : ℕ} → length t₀ ≡ n → n ≤ i → t ≡ map f (span 0 n)
  entered_end {n} l h = entries_are f d t n (w.long ∙ l) (λ j k. w.done j (omega arith))

-- a column of nothing but what stands past its end
pub entered_clear : {A : Type 0} {d : A} {t₀ : List A} {i : ℕ} {t : List A} → Entered d (λ j. d) t₀ i t → length t ≤ i → (j : ℕ) → get_or t j d ≡ d
entered_clear {d} {i} {t} w h j = go (dec_lt j i)
  where
    go : Dec (j < i) → get_or t j d ≡ d
    go (yes b) = w.done j b
    go (no b) = get_or-eq_default t d {n = j} (omega arith)
