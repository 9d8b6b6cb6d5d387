-- The stretch: what a loop that takes one date more a turn keeps, and that four of them have all dates.
use Prim.Native.Nat.{ℕ, zero, suc, ◌+◌, ◌*◌, ◌/◌, ◌≤◌, ◌<◌, min, max}
use native.Mathlib.Omega.{arith}
use native.Mathlib.Decide.{ℕ_discrete}
use mathlib.Core.Path.{◌≡◌, refl, sym, subst}
use mathlib.Core.Bool.{true}
use mathlib.Core.List.{List}
use lib.ListN.{length, get_or}
use Rattle.format.specs.InRange.{IsDate}
use Rattle.spans.specs.declared.Stretch.{Stretch}
use Rattle.variances.specs.Changed.{row_of}
use Rattle.variances.specs.Days.{has_line, InStretch, Reaches, Bounded, widened, AreDates, Takes, Dated}
use Rattle.variances.proofs.Changing.{row_at}

pub widened_none : (known : Stretch) (date : ℕ) → date ≡ 0 → known ≡ widened known date
widened_none known zero e = refl
widened_none known (suc d) e = absurd (omega arith)

pub widened_some : (known : Stretch) (date : ℕ) → (date ≡ 0 → ⊥) → record { from = min known.from date; to = max known.to date } ≡ widened known date
widened_some known zero h = absurd (h refl)
widened_some known (suc d) h = refl

-- ---- the loop

pub takes_none : {known : Stretch} {table : List ℕ} {width at : ℕ} → Bounded known → Takes known table 0 width at known
takes_none b = record { bounded = b; from = omega arith; to = omega arith; dates = λ i h. absurd (omega arith) }

module _ {known : Stretch} {table : List ℕ} {i width at : ℕ} {r : Stretch} (w : Takes known table i width at r) where
  pub takes_more : {n : ℕ} → i < n → AreDates table n width at → {q : Stretch} → q ≡ widened r (get_or table (i * width + at) 0) → Takes known table (i + 1) width at q
  takes_more {n} l dates {q} e = rw e (go (get_or table (i * width + at) 0) refl (dates i l))
    where
      go : (d : ℕ) → get_or table (i * width + at) 0 ≡ d → (0 < get_or table (i * width + at) 0 → IsDate (get_or table (i * width + at) 0)) → Takes known table (i + 1) width at (widened r d)
      go zero z date = record { bounded = w.bounded; from = w.from; to = w.to; dates = λ j h k. one j h k (ℕ_discrete j i) }
        where
          one : (j : ℕ) → j < i + 1 → 0 < get_or table (j * width + at) 0 → Dec (j ≡ i) → InStretch r (get_or table (j * width + at) 0)
          one j h k (yes s) = let none : 0 < get_or table (i * width + at) 0 = rw s at k in absurd (omega arith)
          one j h k (no s) = w.dates j (omega arith) k
      go (suc d) z date =
          record {
            bounded = record { least = omega (arith, w.bounded.least, (date (omega arith)).first); latest = omega (arith, w.bounded.latest); most = omega (arith, w.bounded.most, (date (omega arith)).last) };
            from = omega (arith, w.from);
            to = omega (arith, w.to);
            dates = λ j h k. one j h k (ℕ_discrete j i);
          }
        where
          one : (j : ℕ) → j < i + 1 → 0 < get_or table (j * width + at) 0 → Dec (j ≡ i) → InStretch (widened r (suc d)) (get_or table (j * width + at) 0)
          one j h k (yes s) = rw s record { since = omega arith; up_to = omega arith }
          one j h k (no s) = let before = w.dates j (omega arith) k in record { since = omega (arith, before.since); up_to = omega (arith, before.up_to) }

  pub takes_end : {n : ℕ} → n ≤ i → Takes known table n width at r
  takes_end h = record { bounded = w.bounded; from = w.from; to = w.to; dates = λ j l. w.dates j (omega arith) }

-- ---- all dates

module _
    {schedule out : List ℕ} {none early planned begun all : Stretch} (d : Dated schedule out) (a : Takes none schedule (length out / 5) 13 2 early)
    (b : Takes early schedule (length out / 5) 13 3 planned) (c : Takes planned out (length out / 5) 5 1 begun) (e : Takes begun out (length out / 5) 5 2 all)
  where
    pub all_reached : (i : ℕ) → i < length out / 5 → has_line (row_of 5 out i) ≡ true → Reaches all schedule i (row_of 5 out i)
    all_reached i h l =
        let has = d.lined i h l in
        let start = a.dates i h (omega (arith, (d.early_starts i h).first)) in
        let finish = b.dates i h (omega (arith, (d.early_finishes i h).first)) in
        let line = c.dates i h has.0 in
        record {
          early_start = record { since = omega (arith, start.since, b.from, c.from, e.from); up_to = omega (arith, start.up_to, b.to, c.to, e.to) };
          early_finish = record { since = omega (arith, finish.since, c.from, e.from); up_to = omega (arith, finish.up_to, c.to, e.to) };
          start = subst (InStretch all) (sym (row_at 5 out i 1 (omega arith))) record { since = omega (arith, line.since, e.from); up_to = omega (arith, line.up_to, e.to) };
          finish = subst (InStretch all) (sym (row_at 5 out i 2 (omega arith))) (e.dates i h has.1);
        }

-- the early dates of the activities are dates
pub early_dates : {schedule out : List ℕ} → Dated schedule out → AreDates schedule (length out / 5) 13 2 × AreDates schedule (length out / 5) 13 3
early_dates d = (λ i h k. d.early_starts i h, λ i h k. d.early_finishes i h)
