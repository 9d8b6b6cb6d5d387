-- The schedule of a book: its length, its entries, and what they say of the activities' days.
use Rattle.std.specs.Prelude.{None, Option, Some, unwrap_or, ℕ}
use Prim.Native.Nat.{ℕ, zero, suc, ◌+◌, ◌*◌, ◌≤◌, ◌<◌}
use native.Mathlib.Omega.{arith}
use native.Mathlib.Decide.{dec_lt}
use mathlib.Core.Path.{◌≡◌, refl, ap, ap₂, sym, ◌∙◌}
use mathlib.Core.List.{List, map}
use lib.IntN.{ℤ}
use lib.ListN.{length, get_or, length-map, get_or-eq_default}
use lib.Seq.{ext_get_or}
use Rattle.format.specs.Inverse.{Given}
use Rattle.format.specs.Enumeration.{status_of, status_back}
use Rattle.format.specs.InRange.{IsDate, Fits64, IsMinutes, InRange}
use Rattle.format.specs.Book.{Activity, Book}
use Rattle.format.specs.Verdict.{content}
use Rattle.format.proofs.Theorems.{content_in_range}
use Rattle.book.specs.declared.layout.Plan.{Plan}
use Rattle.book.specs.Plan.{IsPlanOf}
use Rattle.book.proofs.Plan.{activities_count, activities_most, calendars_least, activities_in_range}
use Rattle.flat.proofs.Tables.{flat_length, flat_at}
use Rattle.money.specs.Words.{of_bits}
use Rattle.money.proofs.Bits.{there_and_back}
use Rattle.model.specs.declared.Way.{Way}
use Rattle.model.specs.declared.Way.TheVariants.{Planned, Actual, Remaining}
use Rattle.model.specs.Lookup.{no_activity, activity_at, calendar_at}
use Rattle.model.specs.Calendar.{calendar_of}
use Rattle.model.specs.Days.{days_of}
use Rattle.model.specs.Tree.{parents}
use Rattle.tree.specs.Figures.{parents_of}
use Rattle.lists.proofs.Lists.{at_map}
use Rattle.spans.specs.Columns.{parent_number, calendar_number, first_date, last_date, days_in}
use Rattle.activities.specs.Schedule.{percent_given, percent_bits, percent_of, schedule_row, schedule_of, entry_at, calendar_in, first_place, last_place, first_in, last_in}
use Rattle.activities.specs.Ways.{way_number}
use Rattle.spans.specs.Stretches.{DatedSpans}
use Rattle.activities.proofs.Rows.{Wide, Copied}
use Rattle.spans.proofs.Days.{first_in_range, last_in_range, days_are}
use Rattle.activities.proofs.Leaves.{parents_are}

pub row_wide : (date : Option ℕ) → Wide (schedule_row date) 13
unfolding schedule_row
row_wide date a = refl

-- the dates of a way
pub dates_place : (way : Way) → (way_number way ≤ 2) × ((2 + way_number way * 2 ≡ first_place way) × (3 + way_number way * 2 ≡ last_place way))
dates_place Planned = (omega arith, (refl, refl))
dates_place Actual = (omega arith, (refl, refl))
dates_place Remaining = (omega arith, (refl, refl))

pub percent_given_lem : (k u : ℕ) → (k ≡ 0 → ⊥) → Some (of_bits u) ≡ percent_of k u
percent_given_lem zero u h = absurd (h refl)
percent_given_lem (suc k) u h = refl

-- a percentage is read back from its two numbers
percent_back : (o : Option ℤ) → Given Fits64 o → percent_of (percent_given o) (percent_bits o) ≡ o
percent_back None h = refl
percent_back (Some z) h = ap (λ (x : ℤ). Some x) (there_and_back z h)

given_below : (n : ℕ) (o : Option ℕ) → 0 < n → Given (λ (i : ℕ). i < n) o → unwrap_or o 0 < n
given_below n None l h = l
given_below n (Some i) l h = h

-- ---- of one row

module _ (date : Option ℕ) (a : Activity) {row : List ℕ} (e : row ≡ schedule_row date a) where
  pub row_long : length row ≡ 13
  row_long = ap length e ∙ row_wide date a

  pub row_status : status_of (entry_at row 0 8) ≡ a.status
  unfolding schedule_row
  row_status = ap (λ (t : List ℕ). status_of (entry_at t 0 8)) e ∙ status_back a.status

  pub row_working : entry_at row 0 9 ≡ a.working_minutes
  unfolding schedule_row
  row_working = ap (λ (t : List ℕ). entry_at t 0 9) e

  pub row_remaining : entry_at row 0 10 ≡ a.remaining_minutes
  unfolding schedule_row
  row_remaining = ap (λ (t : List ℕ). entry_at t 0 10) e

  pub row_percent : Given Fits64 a.percent → percent_of (entry_at row 0 11) (entry_at row 0 12) ≡ a.percent
  unfolding schedule_row
  row_percent g = ap (λ (t : List ℕ). percent_of (entry_at t 0 11) (entry_at t 0 12)) e ∙ percent_back a.percent g

-- ---- of any book

module _ (b : Book) {schedule : List ℕ} (e : schedule ≡ schedule_of b) where
  pub schedule_length : length schedule ≡ length b.activities * 13
  unfolding schedule_of
  schedule_length = ap length e ∙ flat_length 13 (schedule_row b.data_date) (row_wide b.data_date) b.activities

  -- past the activities there is nothing
  pub schedule_past : (i k : ℕ) → length b.activities ≤ i → entry_at schedule i k ≡ 0
  schedule_past i k h = get_or-eq_default schedule 0 {n = i * 13 + k} (omega (arith, schedule_length))

  -- number k of activity i
  pub schedule_at : (i k : ℕ) → i < length b.activities → k < 13 → entry_at schedule i k ≡ get_or (schedule_row b.data_date (activity_at b i)) k 0
  unfolding schedule_of
  schedule_at i k h l =
      ap (λ (t : List ℕ). get_or t (i * 13 + k) 0) e ∙ flat_at 13 (schedule_row b.data_date) (row_wide b.data_date) b.activities i k no_activity 0 h l

  module _ (i : ℕ) (h : i < length b.activities) where
    pub parent_at : entry_at schedule i 0 ≡ parent_number (activity_at b i)
    unfolding schedule_row
    parent_at = schedule_at i 0 h (omega arith)

    pub calendar_at_lem : calendar_in schedule i ≡ calendar_number (activity_at b i)
    unfolding schedule_row
    calendar_at_lem = schedule_at i 1 h (omega arith)

    pub status_at : status_of (entry_at schedule i 8) ≡ (activity_at b i).status
    unfolding schedule_row
    status_at = ap status_of (schedule_at i 8 h (omega arith)) ∙ status_back (activity_at b i).status

    pub working_at : entry_at schedule i 9 ≡ (activity_at b i).working_minutes
    unfolding schedule_row
    working_at = schedule_at i 9 h (omega arith)

    pub remaining_at : entry_at schedule i 10 ≡ (activity_at b i).remaining_minutes
    unfolding schedule_row
    remaining_at = schedule_at i 10 h (omega arith)

    pub percent_at : Given Fits64 (activity_at b i).percent → percent_of (entry_at schedule i 11) (entry_at schedule i 12) ≡ (activity_at b i).percent
    unfolding schedule_row
    percent_at g = ap₂ percent_of (schedule_at i 11 h (omega arith)) (schedule_at i 12 h (omega arith)) ∙ percent_back (activity_at b i).percent g

  pub first_at_lem : (way : Way) (i : ℕ) → i < length b.activities → first_in schedule way i ≡ first_date b.data_date way (activity_at b i)
  unfolding schedule_row
  first_at_lem Planned i h = schedule_at i 2 h (omega arith)
  first_at_lem Actual i h = schedule_at i 4 h (omega arith)
  first_at_lem Remaining i h = schedule_at i 6 h (omega arith)

  pub last_at_lem : (way : Way) (i : ℕ) → i < length b.activities → last_in schedule way i ≡ last_date b.data_date way (activity_at b i)
  unfolding schedule_row
  last_at_lem Planned i h = schedule_at i 3 h (omega arith)
  last_at_lem Actual i h = schedule_at i 5 h (omega arith)
  last_at_lem Remaining i h = schedule_at i 7 h (omega arith)

  -- the spans are of the book's dates, each way
  pub spans_dated : InRange b → (way : Way) → DatedSpans (first_in schedule way) (last_in schedule way)
  spans_dated r way = record { begins = λ i k. begins i k (dec_lt i (length b.activities)); ends = λ i. ends i (dec_lt i (length b.activities)) }
    where
      begins : (i : ℕ) → 0 < first_in schedule way i → Dec (i < length b.activities) → IsDate (first_in schedule way i)
      begins i k (yes h) =
          let z = first_at_lem way i h in
          rw z (first_in_range (r.activities i no_activity h) b.data_date r.data_date way (rw z at k))
      begins i k (no h) = absurd (omega (arith, schedule_past i (first_place way) (omega arith)))

      ends : (i : ℕ) → Dec (i < length b.activities) → last_in schedule way i ≤ 47481
      ends i (yes h) = rw (last_at_lem way i h) (last_in_range (r.activities i no_activity h) b.data_date r.data_date way)
      ends i (no h) = omega (arith, schedule_past i (last_place way) (omega arith))

  -- the days of a span are the activity's
  pub days_at :
      InRange b → (way : Way) (i : ℕ) → i < length b.activities →
      days_of b way i ≡ days_in (calendar_at b (calendar_in schedule i)) (first_in schedule way i) (last_in schedule way i)
  unfolding calendar_of calendar_number
  days_at r way i h = rw (calendar_at_lem i h, first_at_lem way i h, last_at_lem way i h) (days_are b r way i h)

  -- the parents that a loop copied
  pub parents_copied :
      {n i : ℕ} {out : List ℕ} → Copied 13 0 schedule n i out → n ≤ i → length schedule ≡ n * 13 → out ≡ map parent_number b.activities
  parents_copied {n} {i} {out} w h l =
      let count : length b.activities ≡ n = omega (arith, schedule_length) in
      ext_get_or 0 out (map parent_number b.activities) (w.long ∙ sym count ∙ sym (length-map b.activities parent_number))
      (λ j k.
      let m : j < length b.activities = omega (arith, w.long) in
      w.done j (omega (arith, w.long)) ∙ parent_at j m ∙ sym (at_map parent_number b.activities j no_activity 0 m))

-- ---- of an accepted book

module _ {s : List ℕ} {date : Option ℕ} {plan : Plan} (p : IsPlanOf s date plan) where
  pub parents_of_lem : {ps : List ℕ} → ps ≡ map parent_number (content s).activities → parents_of ps ≡ parents (content s)
  parents_of_lem e = ap parents_of e ∙ parents_are (content s) (omega (arith, activities_count p, activities_most p)) (content_in_range s p.accepted)

  module _ {schedule : List ℕ} (e : schedule ≡ schedule_of (content s)) where
    pub schedule_long_lem : length schedule ≡ plan.activities.count * 13
    schedule_long_lem = schedule_length (content s) e ∙ ap (λ (n : ℕ). n * 13) (activities_count p)

    pub schedule_most : length schedule ≤ 6500
    schedule_most = omega (arith, schedule_long_lem, activities_most p)

    pub schedule_spans : (way : Way) → DatedSpans (first_in schedule way) (last_in schedule way)
    schedule_spans = spans_dated (content s) e (content_in_range s p.accepted)

    module _ (i : ℕ) (h : i < plan.activities.count) where
      among : i < length (content s).activities
      among = omega (arith, activities_count p)

      pub schedule_calendar : calendar_in schedule i < plan.calendars.count
      unfolding calendar_number
      schedule_calendar =
          rw (calendar_at_lem (content s) e i among)
          (given_below plan.calendars.count (activity_at (content s) i).calendar (calendars_least p) (activities_in_range p i no_activity among).calendar)

      pub schedule_minutes : IsMinutes (entry_at schedule i 9) × IsMinutes (entry_at schedule i 10)
      schedule_minutes =
          let a = activities_in_range p i no_activity among in
          (rw (working_at (content s) e i among) a.working_minutes, rw (remaining_at (content s) e i among) a.remaining_minutes)

      pub schedule_days : (way : Way) → days_of (content s) way i ≡ days_in (calendar_at (content s) (calendar_in schedule i)) (first_in schedule way i) (last_in schedule way i)
      schedule_days way = days_at (content s) e (content_in_range s p.accepted) way i among
