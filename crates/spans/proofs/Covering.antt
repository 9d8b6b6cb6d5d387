-- The stretch: what a loop that takes one span more a turn keeps.
use Prim.Native.Nat.{ℕ, zero, suc, ◌+◌, ◌≤◌, ◌<◌, min, max}
use native.Mathlib.Omega.{arith}
use native.Mathlib.Decide.{dec_lt}
use mathlib.Core.Path.{◌≡◌, refl}
use mathlib.Core.Bool.{Bool, true, false, cond}
use lib.Dec.{ltb}
use borrow.Author.Tests.{ltb-true, ltb-false}
use Rattle.format.specs.InRange.{IsDate}
use Rattle.spans.specs.declared.Stretch.{Stretch}
use Rattle.spans.specs.Stretches.{DatedSpans, CoversSpans, widened, closed}

-- a span is within a stretch, where it has days
pub record Within (r : Stretch) (first last : ℕ) : Type 0 where
  pub begins : 0 < first → r.from ≤ first
  pub starts : 0 < first → first ≤ r.to
  pub ends : 0 < first → last ≤ r.to

module _ (first last : ℕ → ℕ) where
  -- the first i spans are within the stretch
  pub record Covering (i : ℕ) (r : Stretch) : Type 0 where
    pub least : 10957 ≤ r.from
    pub most : r.to ≤ 47481
    pub within : (j : ℕ) → j < i → Within r (first j) (last j)

  pub covering_none : Covering 0 record { from = 47482; to = 10956 }
  covering_none = record { least = omega arith; most = omega arith; within = λ j h. absurd (omega arith) }

pub widened_none : (r : Stretch) (f l : ℕ) → f ≡ 0 → r ≡ widened r f l
unfolding widened
widened_none r zero l e = refl
widened_none r (suc d) l e = absurd (omega arith)

pub widened_some : (r : Stretch) (f l : ℕ) → (f ≡ 0 → ⊥) → record { from = min r.from f; to = max r.to (max f l) } ≡ widened r f l
unfolding widened
widened_some r zero l h = absurd (h refl)
widened_some r (suc d) l h = refl

-- the widened stretch takes what the narrower took, and the span
module _ (r : Stretch) (f l : ℕ) where
  widened_still : (x y : ℕ) → Within r x y → Within (widened r f l) x y
  unfolding widened
  widened_still x y w = go f
    where
      go : (f : ℕ) → Within (widened r f l) x y
      go zero = w
      go (suc d) = record { begins = λ h. omega (arith, w.begins h); starts = λ h. omega (arith, w.starts h); ends = λ h. omega (arith, w.ends h) }

  widened_one : Within (widened r f l) f l
  unfolding widened
  widened_one = go f
    where
      go : (f : ℕ) → Within (widened r f l) f l
      go zero = record { begins = λ h. absurd (omega arith); starts = λ h. absurd (omega arith); ends = λ h. absurd (omega arith) }
      go (suc d) = record { begins = λ h. omega arith; starts = λ h. omega arith; ends = λ h. omega arith }

  widened_least : 10957 ≤ r.from → (0 < f → IsDate f) → 10957 ≤ (widened r f l).from
  unfolding widened
  widened_least h d = go f d
    where
      go : (f : ℕ) → (0 < f → IsDate f) → 10957 ≤ (widened r f l).from
      go zero d = h
      go (suc n) d = let x : 10957 ≤ suc n = (d (omega arith)).first in omega arith

  widened_most : r.to ≤ 47481 → (0 < f → IsDate f) → l ≤ 47481 → (widened r f l).to ≤ 47481
  unfolding widened
  widened_most h d k = go f d
    where
      go : (f : ℕ) → (0 < f → IsDate f) → (widened r f l).to ≤ 47481
      go zero d = h
      go (suc n) d = let x : suc n ≤ 47481 = (d (omega arith)).last in omega arith

module _ {first last : ℕ → ℕ} {i : ℕ} {r : Stretch} (w : Covering first last i r) where
  -- any span of the book's dates may be taken in
  pub covering_still : {q : Stretch} (x y : ℕ) → (0 < x → IsDate x) → y ≤ 47481 → q ≡ widened r x y → Covering first last i q
  covering_still {q} x y d l e =
      rw e
      record {
        least = widened_least r x y w.least d;
        most = widened_most r x y w.most d l;
        within = λ j h. widened_still r x y (first j) (last j) (w.within j h);
      }

  pub covering_more : DatedSpans first last → {q : Stretch} → q ≡ widened r (first i) (last i) → Covering first last (i + 1) q
  covering_more s {q} e =
      rw e
      record {
        least = widened_least r (first i) (last i) w.least (s.begins i);
        most = widened_most r (first i) (last i) w.most (s.begins i) (s.ends i);
        within = λ j h. go j h (dec_lt j i);
      }
    where
      go : (j : ℕ) → j < i + 1 → Dec (j < i) → Within (widened r (first i) (last i)) (first j) (last j)
      go j h (yes k) = widened_still r (first i) (last i) (first j) (last j) (w.within j k)
      go j h (no k) = let z : j ≡ i = omega arith in rw z (widened_one r (first i) (last i))

  -- where no span past these has days, all are covered
  module _ (past : (j : ℕ) → i ≤ j → first j ≡ 0) where
    all_within : (j : ℕ) → 0 < first j → Within r (first j) (last j)
    all_within j k = go (dec_lt j i)
      where
        go : Dec (j < i) → Within r (first j) (last j)
        go (yes l) = w.within j l
        go (no l) = absurd (omega (arith, past j (omega arith)))

    covers_all : r.from ≤ r.to → CoversSpans first last r
    covers_all a =
        record {
          least = w.least;
          most = w.most;
          ahead = omega arith;
          begins = λ j k. (all_within j k).begins k;
          starts = λ j k. (all_within j k).starts k;
          ends = λ j k. (all_within j k).ends k;
        }

    empty : r.to < r.from → (j : ℕ) → 0 < first j → ⊥
    empty a j k = omega (arith, (all_within j k).begins k, (all_within j k).starts k)

    covers_none : r.to < r.from → CoversSpans first last record { from = 10957; to = 10956 }
    covers_none a =
        record {
          least = omega arith;
          most = omega arith;
          ahead = omega arith;
          begins = λ j k. absurd (empty a j k);
          starts = λ j k. absurd (empty a j k);
          ends = λ j k. absurd (empty a j k);
        }

    pub covers_closed : {q : Stretch} → q ≡ closed r → CoversSpans first last q
    unfolding closed
    covers_closed {q} e = rw e (go (ltb r.to r.from) refl)
      where
        go : (b : Bool) → ltb r.to r.from ≡ b → CoversSpans first last (cond b record { from = 10957; to = 10956 } r)
        go true f = covers_none (omega (arith, ltb-true r.to r.from f))
        go false f = covers_all (omega (arith, ltb-false r.to r.from f))
