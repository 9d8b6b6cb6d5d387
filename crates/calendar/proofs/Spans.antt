-- Counts of the dates of a span that pass a test, and tables of them.
use Prim.Native.Nat.{ℕ, zero, suc, ◌+◌, ◌-◌, ◌≤◌, ◌<◌}
use mathlib.Core.Path.{◌≡◌, refl, sym, ap, ◌∙◌}
use mathlib.Core.Bool.{Bool, true, false}
use mathlib.Core.List.{List, []}
use native.Mathlib.Omega.{arith}
use borrow.Author.Tests.{lt-ltb, le-ltb, eqb-true, eqb-false}
use lib.Dec.{eqb, ltb}
use lib.ListN.{length, set}
use lib.Seq.{get_or-set_same, get_or-set_other}
use Rattle.format.specs.Book.{Calendar}
use Rattle.lists.specs.Lists.{span, cons_if, keep}
use Rattle.lists.proofs.Spans.{span_in_lem}
use Rattle.lists.proofs.Lists.{keep_alike}
use Rattle.model.specs.Calendar.{is_working}
use Rattle.model.specs.Days.{dates_between, working_days}
use Rattle.calendar.specs.Tables.{entry, one, works, Shows, Counts, steps, Rises}

-- ---- a table that is filled date by date

pub entries_more :
    (f : ℕ → ℕ) (from date : ℕ) (table : List ℕ) (n : ℕ) → from ≤ date → date - from < length table → n ≡ f date →
    ((e : ℕ) → from ≤ e → e < date → entry from table e ≡ f e) → (e : ℕ) → from ≤ e → e < date + 1 → entry from (set table (date - from) n) e ≡ f e
entries_more f from date table n h l is before e a k = go (eqb e date) refl
  where
    go : (b : Bool) → eqb e date ≡ b → entry from (set table (date - from) n) e ≡ f e
    go true q = rw (eqb-true e date q) (get_or-set_same table (date - from) n 0 l ∙ is)
    go false q =
        let m = eqb-false e date q in
        get_or-set_other table (date - from) (e - from) n 0 (λ q. m (omega arith)) ∙ before e a (omega arith)

-- ---- counts

length_cons_if : (b : Bool) (x : ℕ) (xs : List ℕ) → length (cons_if b x xs) ≡ length xs + one b
length_cons_if true x xs = omega arith
length_cons_if false x xs = omega arith

pub one_most : (b : Bool) → one b ≤ 1
one_most true = omega arith
one_most false = omega arith

module _ (p : ℕ → Bool) where
  -- one date more
  kept_next : (a n : ℕ) → length (keep p (span a (suc n))) ≡ length (keep p (span a n)) + one (p (a + n))
  unfolding keep span
  kept_next a zero = let e : a ≡ a + 0 = omega arith in omega (arith, length_cons_if (p a) a [], ap (λ (d : ℕ). one (p d)) e)
  kept_next a (suc n) =
      let e : suc a + n ≡ a + suc n = omega arith in
      omega (arith, length_cons_if (p a) a (keep p (span (suc a) (suc n))), length_cons_if (p a) a (keep p (span (suc a) n)), kept_next (suc a) n, ap (λ (d : ℕ). one (p d)) e)

  pub kept_more : (from date : ℕ) → from ≤ date → length (keep p (span from (date + 1 - from))) ≡ length (keep p (span from (date - from))) + one (p date)
  kept_more from date h =
      let e : date + 1 - from ≡ suc (date - from) = omega arith in
      let d : from + (date - from) ≡ date = omega arith in
      omega (arith, ap (λ (n : ℕ). length (keep p (span from n))) e, kept_next from (date - from), ap (λ (d : ℕ). one (p d)) d)

  pub kept_none : (from : ℕ) → length (keep p (span from (from - from))) ≡ 0
  unfolding keep span
  kept_none from = let e : from - from ≡ 0 = omega arith in rw e

  -- what a table goes up by over a span
  goes_up :
      (base : ℕ) (table : List ℕ) (from n : ℕ) → ((d : ℕ) → from ≤ d → d < from + n → entry base table (d + 1) ≡ entry base table d + one (p d)) →
      entry base table from + length (keep p (span from n)) ≡ entry base table (from + n)
  unfolding keep span
  goes_up base table from zero h = let e : from ≡ from + 0 = omega arith in omega (arith, ap (entry base table) e)
  goes_up base table from (suc n) h =
      let e : from + n + 1 ≡ from + suc n = omega arith in
      omega (arith, kept_next from n, goes_up base table from n (λ d a b. h d a (omega arith)), h (from + n) (omega arith) (omega arith), ap (entry base table) e)

keep_same : (p q : ℕ → Bool) (a n : ℕ) → ((d : ℕ) → a ≤ d → d < a + n → p d ≡ q d) → keep p (span a n) ≡ keep q (span a n)
keep_same p q a n h = keep_alike p q (span a n) (λ d m. let i = span_in_lem a n d m in h d i.0 i.1)

-- ---- a table of counts, and what is counted

pub rises_between_lem :
    (base : ℕ) (table : List ℕ) (from to : ℕ) → Rises base from to table → from ≤ to →
    entry base table from + length (keep (steps base table) (dates_between from to)) ≡ entry base table (to + 1)
unfolding dates_between
rises_between_lem base table from to r h =
    let e : from + (to + 1 - from) ≡ to + 1 = omega arith in
    goes_up (steps base table) base table from (to + 1 - from) (λ d a b. r.by d a (omega arith)) ∙ ap (entry base table) e

-- of no date, none
pub none_between : (p : ℕ → Bool) (from to : ℕ) → to < from → length (keep p (dates_between from to)) ≡ 0
unfolding dates_between keep span
none_between p from to h = let e : to + 1 - from ≡ 0 = omega arith in rw e

one_step : (b : Bool) (n : ℕ) → ltb n (n + one b) ≡ b
one_step true n = lt-ltb n (n + 1) (omega arith)
one_step false n = le-ltb n (n + 0) (omega arith)

module _ (p : ℕ → Bool) (first last : ℕ) (table : List ℕ) (t : Counts p first last table) where
  next_entry : (date : ℕ) → first ≤ date → date ≤ last → entry first table (date + 1) ≡ entry first table date + one (p date)
  next_entry date h k = omega (arith, t.at date h (omega arith), t.at (date + 1) (omega arith) (omega arith), kept_more p first date h)

  steps_are : (date : ℕ) → first ≤ date → date ≤ last → steps first table date ≡ p date
  steps_are date h k = ap (ltb (entry first table date)) (next_entry date h k) ∙ one_step (p date) (entry first table date)

  module _ (from to : ℕ) (a : first ≤ from) (b : to ≤ last) where
    pub counts_rise : Rises first from to table
    counts_rise = record { by = λ d h k. next_entry d (omega arith) (omega arith) ∙ sym (ap (λ (b : Bool). entry first table d + one b) (steps_are d (omega arith) (omega arith))) }

    pub counts_keep : keep (steps first table) (dates_between from to) ≡ keep p (dates_between from to)
    unfolding dates_between
    counts_keep = keep_same (steps first table) p from (to + 1 - from) (λ d h k. steps_are d (omega arith) (omega arith))

-- a table that counts a calendar's working dates has its working days between any two of its dates
pub counts_working :
    (c : Calendar) (first last : ℕ) (table : List ℕ) → Counts (is_working c) first last table → (from to : ℕ) → first ≤ from → to ≤ last →
    keep (steps first table) (dates_between from to) ≡ working_days c from to
unfolding working_days
counts_working c first last table t from to a b = counts_keep (is_working c) first last table t from to a b

-- what counts the dates that a table of days has counts those that it shows
pub counts_shown : (p : ℕ → Bool) (from to : ℕ) (days table : List ℕ) → Shows p from to days → Counts (works from days) from to table → Counts p from to table
counts_shown p from to days table s t =
    record { at = λ date h k. t.at date h k ∙ ap length (keep_same (works from days) p from (date - from) (λ d a b. shown d a (omega arith))) }
  where
    is_one : (b : Bool) → eqb (one b) 1 ≡ b
    is_one true = refl
    is_one false = refl

    shown : (d : ℕ) → from ≤ d → d ≤ to → works from days d ≡ p d
    shown d a b = ap (λ (n : ℕ). eqb n 1) (s.at d a b) ∙ is_one (p d)
