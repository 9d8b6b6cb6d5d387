-- Holidays taken off a table of days: what the table shows after the holidays of each year, and the year of a date.
use Rattle.std.specs.Prelude.{Option, Some, None}
use Prim.Native.Nat.{ℕ, zero, suc, ◌+◌, ◌-◌, ◌*◌, ◌/◌, ◌≤◌, ◌<◌}
use mathlib.Core.Path.{◌≡◌, refl, sym, ap, ◌∙◌}
use mathlib.Core.Logic.{⊎_elim}
use mathlib.Core.Bool.{Bool, true, false, not, cond, ◌&&◌, ◌||◌, false≢true}
use mathlib.Core.List.{List, [], ◌∷◌, foldl, flat_map, foldl-append}
use native.Mathlib.Omega.{arith}
use borrow.Author.Tests.{eqb-true, eqb-false, le-leb}
use lib.Dec.{eqb}
use lib.IntN.{ℤ, pos, negsuc, nat_abs, ◌-ℤ◌}
use lib.Signed.{le_z}
use lib.ListN.{length, get_or, drop}
use lib.Seq.{drop-cons}
use Rattle.integer.specs.Linear.{linear, dif}
use Rattle.gregorian.specs.Count.{between, counted, signed}
use Rattle.gregorian.specs.Calendar.{days_to_year, civil}
use Rattle.gregorian.proofs.Below.{at_below}
use Rattle.gregorian.proofs.Leap.{closed, is_closed}
use Rattle.gregorian.proofs.Counts.{is_true}
use Rattle.gregorian.proofs.Laws.{year_from, year_before}
use Rattle.dates.specs.Date.{dated, ymd_of}
use Rattle.dates.proofs.Counts.{epoch_is, is_day_lem}
use Rattle.holidays.specs.Holiday.{same, is_holiday}
use Rattle.lists.specs.Lists.{any, span}
use Rattle.holidays.specs.Year.{holidays_in}
use Rattle.lists.proofs.Search.{any_left, any_right, any_either}
use Rattle.holidays.proofs.Years.{self, equal, falls, listed, is_holiday_lem}
use Rattle.calendar.specs.Tables.{entry, one, Shows, marked, freed}
use Rattle.calendar.proofs.Overlays.{length_marked, marked_is}

-- ---- the year of a date up to 31 December 2099

abbrev pub years_past : ℕ → ℕ
years_past date = (4 * date + 2) / 1461

-- the days before the n-th year after 1970
start_of : ℕ → ℕ
start_of n = 4371953 + 365 * n + (n + 1) / 4

right : ℕ → Bool
right n = eqb (closed (n + 11970)) (start_of n)

starts : (n : ℕ) → n < 131 → days_to_year (n + 11970) ≡ start_of n
unfolding right start_of
starts n h = is_closed (n + 11970) ∙ eqb-true (closed (n + 11970)) (start_of n) (is_true (right n) (at_below right 131 tt n h))

pub year_of_lem : (date : ℕ) → date ≤ 47481 → ymd_of (pos date) ≡ Some (dated (pos (years_past date + 1970)) (civil (date + 4371953)).month (civil (date + 4371953)).day)
unfolding ymd_of between counted signed start_of
year_of_lem date h =
    let n = years_past date in
    let c = date + 4371953 in
    let m : n + 1 + 11970 ≡ suc (n + 11970) = omega arith in
    let i : (civil c).year ≡ n + 11970 =
    omega (arith, year_from (n + 11970) c (omega (arith, starts n (omega arith))), year_before (n + 11970) c (omega (arith, ap days_to_year m, starts (n + 1) (omega arith)))) in
    let y : pos (n + 11970) -ℤ pos 10000 ≡ pos (n + 1970) = omega (linear, dif (pos (n + 11970)) (pos 10000)) in
    rw (is_day_lem (pos date), le-leb date 2932896 (omega arith), epoch_is, i, y)

-- ---- a list of days

same_dates : (a b : ℕ) → same (pos a) (pos b) ≡ eqb a b
unfolding same
same_dates a b = go (eqb a b) (same (pos a) (pos b)) refl refl
  where
    go : (e s : Bool) → eqb a b ≡ e → same (pos a) (pos b) ≡ s → same (pos a) (pos b) ≡ e
    go true s q t = rw (eqb-true a b q) (self (pos b))
    go false true q t = absurd (eqb-false a b q (omega (linear, equal (pos a) (pos b) t)))
    go false false q t = t

off : (s t b : Bool) → (not t && cond s false b) ≡ (not (s || t) && b)
off true true b = refl
off true false b = refl
off false t b = refl

module _ (base : ℕ) where
  freed_is :
      (date : ℕ) → base ≤ date → (xs : List (Option ℤ)) (days : List ℕ) → date - base < length days → (b : Bool) → entry base days date ≡ one b →
      entry base (foldl (freed base) days xs) date ≡ one (not (any (falls (pos date)) xs) && b)
  unfolding freed any same
  freed_is date first [] days h b e = e
  freed_is date first (None ∷ xs) days h b e = freed_is date first xs days h b e
  freed_is date first (Some (negsuc n) ∷ xs) days h b e = freed_is date first xs days h b e
  freed_is date first (Some (pos d) ∷ xs) days h b e =
      freed_is date first xs (marked base d false days) (omega (arith, length_marked base d false days)) (cond (eqb date d) false b) (marked_is base date first days h d false b e)
      ∙ ap one (off (eqb date d) (any (falls (pos date)) xs) b ∙ sym (ap (λ (s : Bool). not (s || any (falls (pos date)) xs) && b) (same_dates date d)))

-- a day from 1970 on, and one before
pub freed_from : (base : ℕ) (days : List ℕ) (z : ℤ) → le_z (pos 0) z ≡ true → freed base days (Some z) ≡ marked base (nat_abs z) false days
unfolding freed
freed_from base days (pos n) h = refl
freed_from base days (negsuc n) h = absurd (false≢true h)

pub freed_before : (base : ℕ) (days : List ℕ) (z : ℤ) → le_z (pos 0) z ≡ false → freed base days (Some z) ≡ days
unfolding freed
freed_before base days (pos n) h = absurd (false≢true (sym h ∙ le-leb 0 n (omega arith)))
freed_before base days (negsuc n) h = refl

-- one by one
pub free_next :
    (base : ℕ) (xs : List (Option ℤ)) (k : ℕ) → k < length xs → (days : List ℕ) {after : List ℕ} → after ≡ freed base days (get_or xs k None) →
    foldl (freed base) after (drop (k + 1) xs) ≡ foldl (freed base) days (drop k xs)
free_next base xs k h days m =
    let e : suc k ≡ k + 1 = omega arith in
    rw (drop-cons xs k None h, e, m)

-- ---- the days of years

module _ {A : Type 0} (p : A → Bool) (f : ℕ → List A) where
  any_year : (a n y : ℕ) → a ≤ y → y < a + n → any p (f y) ≡ true → any p (flat_map f (span a n)) ≡ true
  unfolding span flat_map
  any_year a zero y h k e = absurd (omega arith)
  any_year a (suc n) y h k e = go (eqb a y) refl (λ m. any_year (suc a) n y (omega arith) (omega arith) e)
    where
      go : (b : Bool) → eqb a y ≡ b → ((a ≡ y → ⊥) → any p (flat_map f (span (suc a) n)) ≡ true) → any p (flat_map f (span a (suc n))) ≡ true
      go true q rest = any_left p (f a) (flat_map f (span (suc a) n)) (rw (eqb-true a y q) e)
      go false q rest = any_right p (f a) (flat_map f (span (suc a) n)) (rest (eqb-false a y q))

  some_year : {R : Type 0} → ((y : ℕ) → any p (f y) ≡ true → R) → (a n : ℕ) → any p (flat_map f (span a n)) ≡ true → R
  unfolding span any flat_map
  some_year g a zero e = absurd (false≢true e)
  some_year g a (suc n) e = ⊎_elim (g a) (some_year g (suc a) n) (any_either p (f a) (flat_map f (span (suc a) n)) e)

-- the holidays of the n-th year after 1970
abbrev pub holidays_after : ℕ → List (Option ℤ)
holidays_after n = holidays_in (pos (n + 1970))

-- of the years after 1970 from the n-th on to another
abbrev pub holidays_up_to : ℕ → ℕ → List (Option ℤ)
holidays_up_to last n = flat_map holidays_after (span n (last + 1 - n))

pub free_next_year :
    (base last n : ℕ) → n ≤ last → (days : List ℕ) {after : List ℕ} → after ≡ foldl (freed base) days (holidays_after n) →
    foldl (freed base) after (holidays_up_to last (n + 1)) ≡ foldl (freed base) days (holidays_up_to last n)
unfolding span flat_map
free_next_year base last n h days m =
    let e : last + 1 - n ≡ suc (last + 1 - (n + 1)) = omega arith in
    let f : n + 1 ≡ suc n = omega arith in
    rw (m, e, f) (sym (foldl-append (freed base) days (holidays_after n) (flat_map holidays_after (span (suc n) (last + 1 - suc n)))))

pub free_no_year : (base last n : ℕ) → last < n → (days : List ℕ) → foldl (freed base) days (holidays_up_to last n) ≡ days
unfolding span flat_map
free_no_year base last n h days = let e : last + 1 - n ≡ 0 = omega arith in rw e

-- ---- together

same_truth : (a b : Bool) → (a ≡ true → b ≡ true) → (b ≡ true → a ≡ true) → a ≡ b
same_truth true b f g = sym (f refl)
same_truth false true f g = g refl
same_truth false false f g = refl

are_listed : (from to : ℕ) → to ≤ 47481 → (date : ℕ) → from ≤ date → date ≤ to → any (falls (pos date)) (holidays_up_to (years_past to) (years_past from)) ≡ is_holiday (pos date)
are_listed from to h date l m =
    same_truth _ _
    (some_year (falls (pos date)) holidays_after (λ n e. is_holiday_lem (pos date) (pos (n + 1970)) e) (years_past from) (years_past to + 1 - years_past from))
    (λ e. any_year (falls (pos date)) holidays_after (years_past from) (years_past to + 1 - years_past from) (years_past date) (omega arith) (omega arith)
    (listed (pos date) (pos (years_past date + 1970)) _ _ (year_of_lem date (omega arith)) e))

pub shows_freed :
    (from to : ℕ) → to ≤ 47481 → (days : List ℕ) {after : List ℕ} → to + 1 - from ≤ length days → after ≡ foldl (freed from) days (holidays_up_to (years_past to) (years_past from)) →
    (p : ℕ → Bool) → Shows p from to days → Shows (λ date. not (is_holiday (pos date)) && p date) from to after
shows_freed from to h days n m p s =
    record {
      at = λ date l k.
          ap (λ (t : List ℕ). entry from t date) m
          ∙ freed_is from date l (holidays_up_to (years_past to) (years_past from)) days (omega arith) (p date) (s.at date l k)
          ∙ ap (λ (b : Bool). one (not b && p date)) (are_listed from to h date l k);
    }
