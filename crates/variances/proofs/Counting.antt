-- Working days between two dates, as the difference of two running counts.
use Prim.Native.Nat.{ℕ, zero, suc, ◌+◌, ◌-◌, ◌≤◌, ◌<◌}
use native.Mathlib.Omega.{arith}
use native.Mathlib.Decide.{dec_lt}
use mathlib.Core.Path.{◌≡◌, ap, ap₂, ◌∙◌}
use mathlib.Core.Bool.{Bool, true, false}
use mathlib.Core.List.{List, [], ◌∷◌}
use lib.IntN.{ℤ, pos}
use lib.ListN.{length}
use lib.Seq.{sets}
use Rattle.integer.specs.Linear.{eq_in, dif}
use Rattle.format.specs.Book.{Calendar}
use Rattle.money.specs.Words.{bits}
use Rattle.lists.specs.Lists.{span, cons_if, keep}
use Rattle.model.specs.Calendar.{is_working}
use Rattle.model.specs.Variances.{working_up_to, working_between}
use Rattle.calendar.specs.Tables.{entry, Counts}
use Rattle.spans.specs.declared.Stretch.{Stretch}
use Rattle.variances.specs.Days.{dated, InStretch, Reaches, HasCount, Counted, counted_between}

module _ (p : ℕ → Bool) where
  -- how many of n dates from a on
  kept : ℕ → ℕ → ℕ
  kept a n = length (keep p (span a n))

  kept_most : (a n : ℕ) → kept a n ≤ n
  unfolding kept keep span
  kept_most a zero = omega arith
  kept_most a (suc n) = go (p a) (kept_most (suc a) n)
    where
      go : (b : Bool) → length (keep p (span (suc a) n)) ≤ n → length (cons_if b a (keep p (span (suc a) n))) ≤ suc n
      go true h = omega arith
      go false h = omega arith

  kept_split : (a m k : ℕ) → kept a (m + k) ≡ kept a m + kept (a + m) k
  unfolding kept keep span
  kept_split a zero k =
      let e : 0 + k ≡ k = omega arith in
      let g : a + 0 ≡ a = omega arith in
      rw (e, g) (omega arith)
  kept_split a (suc m) k =
      let e : suc m + k ≡ suc (m + k) = omega arith in
      let g : a + suc m ≡ suc a + m = omega arith in
      rw (e, g) (go (p a) (kept_split (suc a) m k))
    where
      go :
          (b : Bool) → kept (suc a) (m + k) ≡ kept (suc a) m + kept (suc a + m) k →
          length (cons_if b a (keep p (span (suc a) (m + k)))) ≡ length (cons_if b a (keep p (span (suc a) m))) + length (keep p (span (suc a + m) k))
      go true h = omega arith
      go false h = h

  -- up to a date, and from there to another
  kept_parts : (lo a b : ℕ) → lo ≤ a → a ≤ b → kept lo (b - lo) ≡ kept lo (a - lo) + kept a (b - a)
  kept_parts lo a b h l =
      let e : b - lo ≡ a - lo + (b - a) = omega arith in
      let g : lo + (a - lo) ≡ a = omega arith in
      ap (kept lo) e ∙ kept_split lo (a - lo) (b - a) ∙ ap (λ (k : ℕ). kept lo (a - lo) + kept k (b - a)) g

  module _ (lo hi : ℕ) (counts : List ℕ) (t : Counts p lo hi counts) where
    at : (date : ℕ) → lo ≤ date → date ≤ hi → entry lo counts date ≡ kept lo (date - lo)
    unfolding kept
    at date h l = t.at date h (omega arith)

    counts_small : hi ≤ 47481 → (date : ℕ) → lo ≤ date → date ≤ hi → entry lo counts date ≤ 47482
    counts_small most date h l = omega (arith, at date h l, kept_most lo (date - lo))

    balanced : (a b : ℕ) → lo ≤ a → a ≤ hi → lo ≤ b → b ≤ hi → entry lo counts a + kept a (b - a) ≡ entry lo counts b + kept b (a - b)
    balanced a b h k l m = go (dec_lt b a)
      where
        go : Dec (b < a) → entry lo counts a + kept a (b - a) ≡ entry lo counts b + kept b (a - b)
        go (yes r) = omega (arith, at a h k, at b l m, kept_parts lo b a l (omega arith), kept_most a (b - a))
        go (no r) = omega (arith, at a h k, at b l m, kept_parts lo a b h (omega arith), kept_most b (a - b))

module _ (c : Calendar) {r : Stretch} {counts : List ℕ} (t : Counts (is_working c) r.from r.to counts) where
  -- between two dates of the stretch
  counted_between_lem : {a b : ℕ} → InStretch r a → InStretch r b → counted_between r.from counts a b ≡ working_between c a b
  unfolding working_between working_up_to kept
  counted_between_lem {a} {b} h l =
      let p = is_working c in
      let lo = r.from in
      eq_in
      (omega (
        arith,
        dif (pos (entry lo counts b)) (pos (entry lo counts a)),
        dif (pos (length (keep p (span a (b - a))))) (pos (length (keep p (span b (a - b))))),
        balanced p lo r.to counts t a b h.since h.up_to l.since l.up_to,
      ))

  -- of an activity whose dates are of the stretch
  pub dated_counted : {schedule : List ℕ} {i : ℕ} {row : List ℕ} → Reaches r schedule i row → dated (counted_between r.from counts) schedule i row ≡ dated (working_between c) schedule i row
  dated_counted {row} w =
      ap₂ (λ (x y : ℤ). sets row 1 (bits x ∷ bits y ∷ [])) (counted_between_lem w.early_start w.start) (counted_between_lem w.early_finish w.finish)

  pub counted_in : r.to ≤ 47481 → r.to + 1 - r.from < length counts → Counted r counts
  counted_in most room = record { room = room; small = counts_small (is_working c) r.from r.to counts t most }

-- a date of the stretch has its count
pub has_count : {r : Stretch} {counts : List ℕ} → Counted r counts → {date : ℕ} → InStretch r date → HasCount r.from counts date
has_count c {date} h =
    record { since = h.since; inside = omega (arith, c.room, h.since, h.up_to); small = c.small date h.since h.up_to }
