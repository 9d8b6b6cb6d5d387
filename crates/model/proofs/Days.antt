-- A day list is the working dates of its span, rising; without one, the first date alone.
use Prim.Native.Nat.{ℕ, zero, suc, ◌+◌, ◌-◌, ◌≤◌, ◌<◌, min, max}
use mathlib.Core.Path.{◌≡◌, refl, ap₂, ◌∙◌}
use mathlib.Core.Logic.{◌↔◌, ⊎_elim}
use mathlib.Core.Bool.{Bool, true, false, ◌&&◌}
use mathlib.Core.List.Memᴰ
use mathlib.Core.List.{List, [], ◌∷◌, Memᴰ}
use native.Mathlib.Omega.{arith}
use borrow.Author.Tests.{leb-true, le-leb}
use lib.Dec.{leb}
use lib.ListN.{length}
use Rattle.gregorian.proofs.Laws.{and_both}
use Rattle.format.specs.Book.{Calendar}
use Rattle.format.specs.InRange.{Rising}
use Rattle.lists.specs.Lists.{span, cons_if, keep}
use Rattle.model.specs.Calendar.{is_working}
use Rattle.model.specs.Days.{dates_between, working_days, or_alone, day_list}
use Rattle.lists.proofs.Spans.{span_in_lem, in_span}
use Rattle.lists.proofs.Lists.{keep_in, in_keep, keep_keep}
use Rattle.model.proofs.Rising.{keep_rises, rising_same}

-- dates that pass a test, between two dates
module _ (p : ℕ → Bool) (from to : ℕ) where
  pub kept_between : (d : ℕ) → Memᴰ d (keep p (dates_between from to)) → (from ≤ d) × (d ≤ to) × (p d ≡ true)
  unfolding dates_between
  kept_between d m =
      let k = keep_in p d (dates_between from to) m in
      let s = span_in_lem from (to + 1 - from) d k.0 in
      (s.0, omega arith, k.1)

  pub between_kept : (d : ℕ) → from ≤ d → d ≤ to → p d ≡ true → Memᴰ d (keep p (dates_between from to))
  unfolding dates_between
  between_kept d h l e = in_keep p d (dates_between from to) (in_span from (to + 1 - from) d h (omega arith)) e

-- those up to a date are those of a shorter span
pub kept_up_to : (p : ℕ → Bool) (from to date : ℕ) → keep (λ d. leb d date) (keep p (dates_between from to)) ≡ keep p (dates_between from (min to date))
unfolding dates_between
kept_up_to p from to date =
    let early : ℕ → Bool = λ d. p d && leb d date in
    keep_keep p (λ d. leb d date) (dates_between from to)
    ∙ rising_same (keep early (dates_between from to)) (keep p (dates_between from (min to date)))
    (keep_rises early from (to + 1 - from)) (keep_rises p from (min to date + 1 - from))
    (λ d m. let k = kept_between early from to d m in let b = and_both (p d) (leb d date) k.2 in between_kept p from (min to date) d k.0 (omega (arith, leb-true d date b.1)) b.0)
    (λ d m. let k = kept_between p from (min to date) d m in between_kept early from to d k.0 (omega arith) (ap₂ ◌&&◌ k.2 (le-leb d date (omega arith))))

-- one date rises
pub alone_rises : (from : ℕ) (l : List ℕ) → Rising l → Rising (or_alone from l)
alone_rises from [] r j k m h = absurd (omega arith)
alone_rises from (d ∷ ds) r j k m h = r j k m h

module _ (c : Calendar) (from to : ℕ) where
  -- the working days are the dates of the span that work
  pub working_days_lem : (d : ℕ) → Memᴰ d (working_days c from to) ↔ ((from ≤ d) × (d ≤ to) × (is_working c d ≡ true))
  unfolding working_days
  working_days_lem d = (kept_between (is_working c) from to d, λ w. between_kept (is_working c) from to d w.0 w.1 w.2)

  pub working_days_rise : Rising (working_days c from to)
  unfolding working_days dates_between
  working_days_rise = keep_rises (is_working c) from (to + 1 - from)

  -- those up to a date are the working days of a shorter span
  pub working_up_to_lem : (date : ℕ) → keep (λ d. leb d date) (working_days c from to) ≡ working_days c from (min to date)
  unfolding working_days
  working_up_to_lem date = kept_up_to (is_working c) from to date

  -- ---- the day list: where some date works, these; else the first date alone
  pub day_list_working : (d : ℕ) → from ≤ d → d ≤ to → is_working c d ≡ true → day_list c from to ≡ working_days c from to
  unfolding day_list
  day_list_working d h l e = go (working_days c from to) ((working_days_lem d).1 (h, l, e))
    where
      go : (l : List ℕ) → Memᴰ d l → or_alone from l ≡ l
      go [] m = absurd (Memᴰ.not-nil m)
      go (e ∷ es) m = refl

  pub day_list_alone : ((d : ℕ) → from ≤ d → d ≤ to → is_working c d ≡ true → ⊥) → day_list c from to ≡ from ∷ []
  unfolding day_list
  day_list_alone none = go (working_days c from to) (λ d m. let w = (working_days_lem d).0 m in none d w.0 w.1 w.2)
    where
      go : (l : List ℕ) → ((d : ℕ) → Memᴰ d l → ⊥) → or_alone from l ≡ from ∷ []
      go [] h = refl
      go (d ∷ ds) h = absurd (h d (Memᴰ.head refl))

  -- the same by their number
  pub day_list_counted : 0 < length (working_days c from to) → day_list c from to ≡ working_days c from to
  unfolding day_list
  day_list_counted h = go (working_days c from to) h
    where
      go : (l : List ℕ) → 0 < length l → or_alone from l ≡ l
      go [] h = absurd (omega arith)
      go (d ∷ ds) h = refl

  pub day_list_empty : length (working_days c from to) ≡ 0 → day_list c from to ≡ from ∷ []
  unfolding day_list
  day_list_empty h = go (working_days c from to) h
    where
      go : (l : List ℕ) → length l ≡ 0 → or_alone from l ≡ from ∷ []
      go [] h = refl
      go (d ∷ ds) h = absurd (omega arith)

  -- of one date, or of none, the first date, whether it works or not
  pub day_list_one : to ≤ from → day_list c from to ≡ from ∷ []
  unfolding day_list working_days dates_between span keep
  day_list_one h = go (to + 1 - from) (omega arith)
    where
      one : (works : Bool) → or_alone from (cons_if works from []) ≡ from ∷ []
      one true = refl
      one false = refl

      go : (n : ℕ) → n ≤ 1 → or_alone from (keep (is_working c) (span from n)) ≡ from ∷ []
      go zero l = refl
      go (suc zero) l = one (is_working c from)
      go (suc (suc n)) l = absurd (omega arith)

  pub day_list_some : 0 < length (day_list c from to)
  unfolding day_list
  day_list_some = go (working_days c from to)
    where
      go : (l : List ℕ) → 0 < length (or_alone from l)
      go [] = omega arith
      go (d ∷ ds) = omega arith

  pub day_list_rises : Rising (day_list c from to)
  unfolding day_list
  day_list_rises = alone_rises from (working_days c from to) working_days_rise

  -- within the span, but never empty
  pub day_list_within : (d : ℕ) → Memᴰ d (day_list c from to) → (from ≤ d) × (d ≤ max from to)
  unfolding day_list
  day_list_within d m = go (working_days c from to) (λ e n. (working_days_lem e).0 n) m
    where
      go : (l : List ℕ) → ((e : ℕ) → Memᴰ e l → (from ≤ e) × (e ≤ to) × (is_working c e ≡ true)) → Memᴰ d (or_alone from l) → (from ≤ d) × (d ≤ max from to)
      go [] h m = ⊎_elim (λ e. (omega arith, omega arith)) (λ n. absurd (Memᴰ.not-nil n)) (Memᴰ.cases_cons m)
      go (e ∷ es) h m = let w = h d m in (w.0, omega arith)
