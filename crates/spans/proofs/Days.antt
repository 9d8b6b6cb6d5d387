-- The spans of an accepted book are dates, and their day lists are the activities' days.
use Rattle.std.specs.Prelude.{None, Option, Some, unwrap_or}
use Prim.Native.Nat.{ℕ, zero, suc, ◌≤◌, ◌<◌, min, max}
use native.Mathlib.Omega.{arith}
use mathlib.Core.Path.{◌≡◌, refl, sym}
use mathlib.Core.Bool.{Bool, true, false, cond}
use mathlib.Core.Logic.{⊎_elim}
use mathlib.Core.List.Memᴰ
use mathlib.Core.List.{List, [], ◌∷◌, Memᴰ}
use lib.ListN.{length}
use Rattle.format.specs.declared.Status.{Status}
use Rattle.format.specs.declared.Status.TheVariants.{NotStarted, InProgress, Completed}
use Rattle.format.specs.Inverse.{Given}
use Rattle.format.specs.InRange.{IsDate, ActivityInRange, InRange}
use Rattle.format.specs.Book.{Calendar, Activity, Book}
use Rattle.model.specs.declared.Way.{Way}
use Rattle.model.specs.declared.Way.TheVariants.{Planned, Actual, Remaining}
use Rattle.model.specs.Lookup.{no_activity, activity_at}
use Rattle.model.specs.Calendar.{calendar_of}
use Rattle.model.proofs.Days.{working_days_lem}
use Rattle.model.specs.Days.{working_days, or_alone, day_list, is_started, actual_to, planned_days, days_since, actual_days, remaining_from, days_left, remaining_days, days_of}
use Rattle.spans.specs.Columns.{actual_from, remaining_since, first_date, last_date, days_in}
use Rattle.spans.specs.declared.Stretch.{Stretch}
use Rattle.spans.specs.Stretches.{CoversSpans}
use Rattle.std.specs.Option.{option_or}

-- ---- spans are of the book's dates

-- 0, or a date
abbrev pub NoneOrDate : ℕ → Type 0
NoneOrDate d = 0 < d → IsDate d

given_date : (o : Option ℕ) → Given IsDate o → NoneOrDate (unwrap_or o 0)
given_date None h k = absurd (omega arith)
given_date (Some d) h k = h

or_else_date : (a b : Option ℕ) → Given IsDate a → Given IsDate b → Given IsDate (option_or a b)
or_else_date None b h k = k
or_else_date (Some d) b h k = h

if_started : (b : Bool) (d : ℕ) → NoneOrDate d → NoneOrDate (cond b d 0)
if_started true d h = h
if_started false d h = λ k. absurd (omega arith)

between_date : (date : Option ℕ) (start finish : ℕ) → Given IsDate date → IsDate start → IsDate finish → IsDate (min (max (unwrap_or date start) start) finish)
between_date None start finish h s f =
    record { first = omega (arith, s.first, f.first); last = omega (arith, f.last) }
between_date (Some d) start finish h s f =
    record { first = omega (arith, s.first, f.first); last = omega (arith, f.last) }

since_date :
    (status : Status) (date : Option ℕ) (start finish : ℕ) → Given IsDate date → IsDate start → IsDate finish →
    NoneOrDate (remaining_since status date start finish)
since_date NotStarted date start finish h s f k = s
since_date InProgress date start finish h s f k = between_date date start finish h s f
since_date Completed date start finish h s f k = absurd (omega arith)

to_last : (finish date : Option ℕ) (from : ℕ) → Given IsDate finish → Given IsDate date → NoneOrDate from → actual_to finish date from ≤ 47481
to_last (Some d) date from f h k = f.last
to_last None (Some d) from f h k = omega (arith, h.last)
to_last None None zero f h k = omega arith
to_last None None (suc d) f h k = (k (omega arith)).last

module _ {calendars activities : ℕ} {a : Activity} (r : ActivityInRange calendars activities a) (date : Option ℕ) (h : Given IsDate date) where
  actual_date : NoneOrDate (actual_from a)
  actual_date =
      if_started (is_started a.status) (unwrap_or (option_or a.actual_start a.actual_finish) 0)
      (given_date (option_or a.actual_start a.actual_finish) (or_else_date a.actual_start a.actual_finish r.actual_start r.actual_finish))

  pub first_in_range : (way : Way) → NoneOrDate (first_date date way a)
  unfolding first_date
  first_in_range Planned k = r.early_start
  first_in_range Actual k = actual_date k
  first_in_range Remaining k = since_date a.status date a.early_start a.early_finish h r.early_start r.early_finish k

  pub last_in_range : (way : Way) → last_date date way a ≤ 47481
  unfolding last_date
  last_in_range Planned = r.early_finish.last
  last_in_range Actual = to_last a.actual_finish date (actual_from a) r.actual_finish h actual_date
  last_in_range Remaining = r.early_finish.last

-- ---- their day lists

pub days_in_lem : (c : Calendar) (first last : ℕ) → 0 < first → days_in c first last ≡ day_list c first last
unfolding days_in
days_in_lem c zero last h = absurd (omega arith)
days_in_lem c (suc d) last h = refl

pub days_none : (c : Calendar) (first last : ℕ) → first ≡ 0 → days_in c first last ≡ []
unfolding days_in
days_none c first last e = rw e

pub date_days : (c : Calendar) (first last : ℕ) → IsDate first → day_list c first last ≡ days_in c first last
date_days c first last d = sym (days_in_lem c first last (omega (arith, d.first)))

module _ (book : Book) (a : Activity) where
  since_days :
      (b : Bool) (o : Option ℕ) → Given IsDate o →
      cond b (days_since book a o) [] ≡ days_in (calendar_of book a) (cond b (unwrap_or o 0) 0) (actual_to a.actual_finish book.data_date (cond b (unwrap_or o 0) 0))
  unfolding days_since days_in
  since_days false o h = refl
  since_days true None h = refl
  since_days true (Some d) h = date_days (calendar_of book a) d (actual_to a.actual_finish book.data_date d) h

  left_days :
      (status : Status) → Given IsDate book.data_date → IsDate a.early_start → IsDate a.early_finish →
      days_left book a status ≡ days_in (calendar_of book a) (remaining_since status book.data_date a.early_start a.early_finish) a.early_finish
  unfolding days_left planned_days remaining_from days_in
  left_days NotStarted h s f = date_days (calendar_of book a) a.early_start a.early_finish s
  left_days InProgress h s f =
      date_days (calendar_of book a) (min (max (unwrap_or book.data_date a.early_start) a.early_start) a.early_finish) a.early_finish
      (between_date book.data_date a.early_start a.early_finish h s f)
  left_days Completed h s f = refl

pub days_are :
    (book : Book) → InRange book → (way : Way) (i : ℕ) → i < length book.activities →
    let a = activity_at book i in
    days_of book way i ≡ days_in (calendar_of book a) (first_date book.data_date way a) (last_date book.data_date way a)
unfolding days_of first_date last_date planned_days actual_days remaining_days
days_are book r Planned i h =
    let a = activity_at book i in
    date_days (calendar_of book a) a.early_start a.early_finish (r.activities i no_activity h).early_start
days_are book r Actual i h =
    let a = activity_at book i in
    let f = r.activities i no_activity h in
    since_days book a (is_started a.status) (option_or a.actual_start a.actual_finish) (or_else_date a.actual_start a.actual_finish f.actual_start f.actual_finish)
days_are book r Remaining i h =
    let a = activity_at book i in
    let f = r.activities i no_activity h in
    left_days book a a.status r.data_date f.early_start f.early_finish

-- ---- their days are within their span, and so within any stretch that covers it

alone_within : (P : ℕ → Type 0) (from : ℕ) (l : List ℕ) → P from → ((d : ℕ) → Memᴰ d l → P d) → (d : ℕ) → Memᴰ d (or_alone from l) → P d
alone_within P from [] z h d m = ⊎_elim (λ e. rw e z) (λ r. absurd (Memᴰ.not-nil r)) (Memᴰ.cases_cons m)
alone_within P from (x ∷ xs) z h d m = h d m

pub days_covered :
    {first last : ℕ → ℕ} {r : Stretch} → CoversSpans first last r → (c : Calendar) (i d : ℕ) → Memᴰ d (days_in c (first i) (last i)) →
    (r.from ≤ d) × (d ≤ r.to)
unfolding days_in day_list
days_covered {first} {last} {r} w c i d m = go (first i) (w.begins i) (w.starts i) (w.ends i) m
  where
    go :
        (f : ℕ) → (0 < f → r.from ≤ f) → (0 < f → f ≤ r.to) → (0 < f → last i ≤ r.to) → Memᴰ d (days_in c f (last i)) →
        (r.from ≤ d) × (d ≤ r.to)
    go zero x y z m = absurd (Memᴰ.not-nil m)
    go (suc f) x y z m =
        alone_within (λ (e : ℕ). (r.from ≤ e) × (e ≤ r.to)) (suc f) (working_days c (suc f) (last i)) (x (omega arith), y (omega arith))
        (λ e n. let k = (working_days_lem c (suc f) (last i) e).0 n in (omega (arith, x (omega arith)), omega (arith, z (omega arith)))) d m
