-- What is asked of an accepted book: its tables are as laying and writing need them.
use Rattle.std.specs.Prelude.{Option, ℕ}
use Prim.Native.Nat.{ℕ, ◌+◌, ◌*◌, ◌≤◌, ◌<◌, min, max}
use mathlib.Core.Path.{◌≡◌, sym, ap, ap₂, ◌∙◌, subst}
use mathlib.Core.List.{List, [], flat_map}
use native.Mathlib.Nat.{mul-le-mul_right}
use native.Mathlib.Omega.{arith}
use lib.IntN.{ℤ, pos}
use lib.ListN.{length, get_or, take, replicate}
use Rattle.format.specs.Format as layout
use Rattle.format.specs.InRange.{Every, CalendarInRange, InRange}
use Rattle.format.specs.Book.{Book}
use Rattle.format.specs.Verdict.{content}
use Rattle.format.proofs.Theorems.{content_in_range}
use Rattle.sections.specs.Sections.{alike_in}
use Rattle.book.specs.Plan.{IsPlanOf}
use Rattle.book.proofs.Plan.{calendars_most, assignments_most, expenses_most}
use Rattle.model.specs.Amounts.{points_between}
use Rattle.model.specs.Costs.{budget_by_day, spending_between}
use Rattle.model.specs.declared.Way.TheVariants.{Planned}
use Rattle.model.proofs.Points.{points_none}
use Rattle.calendar.specs.Tables.{ShowsAll}
use Rattle.book.specs.declared.layout.Plan.{Plan}
use Rattle.spans.specs.declared.Stretch.{Stretch}
use Rattle.activities.specs.Schedule.{schedule_of, first_in, last_in}
use Rattle.spans.specs.Stretches.{DatedSpans, CoversSpans}
use Rattle.prices.specs.Rates.{rate_row, rates_of}
use Rattle.laid.specs.Laid.{Laid}
use Rattle.bydate.specs.Pointed.{points_in, Reaches}
use Rattle.bydate.proofs.Arrays.{front_long}
use Rattle.bydate.proofs.Pointing.{points_laid, points_narrow}
use Rattle.bydate.specs.Sizes.{dates_of, IsEmpty}
use Rattle.spending.specs.declared.asked.Asked.{Asked}
use Rattle.spending.specs.declared.charged.Frame.{Frame}
use Rattle.spending.specs.Asking.{IsAsked, IsCharged}
use Rattle.spending.specs.Budgeted.{charge_count, HasRoom}
use Rattle.spending.specs.Grained.{Writes}
use Rattle.spending.specs.Chained.{Chained}
use Rattle.spending.specs.Charged.{AreTables, Charged, AreCharged, AreSpans, IsScheduled}
use Rattle.spending.proofs.Written.{writes_same}
use Rattle.spending.proofs.Charging.{charged_are}
use Rattle.spending.proofs.Spanning.{spans_are, spans_listed, budget_within}
use Rattle.answers.specs.Reply.{Reply}

-- ---- parts of arrays

pub arrays_room :
    (plan : Plan) (r l u : ℕ) → plan.resources.count * 82 ≤ r → charge_count plan * 2 ≤ l → charge_count plan * 3 ≤ u →
    HasRoom plan (take (plan.resources.count * 82) (replicate r 0)) (take (charge_count plan * 2) (replicate l 0)) (take (charge_count plan * 3) (replicate u (pos 0)))
arrays_room plan r l u f g h =
    record {
      for_rates = sym (front_long {A = ℕ} r 0 (plan.resources.count * 82) f);
      for_links = sym (front_long {A = ℕ} l 0 (charge_count plan * 2) g);
      for_units = sym (front_long u (pos 0) (charge_count plan * 3) h);
    }

-- ---- the stretch of the planned spans

last_place_lem : (i : ℕ) → i * 13 + 2 + 1 ≡ i * 13 + 3
last_place_lem i = omega arith

pub planned_dated : (t : List ℕ) → DatedSpans (first_in t Planned) (last_in t Planned) → DatedSpans (λ i. get_or t (i * 13 + 2) 0) (λ i. get_or t (i * 13 + 2 + 1) 0)
planned_dated t w = record { begins = w.begins; ends = λ i. subst (λ (k : ℕ). get_or t k 0 ≤ 47481) (sym (last_place_lem i)) (w.ends i) }

pub planned_covers : (t : List ℕ) {r : Stretch} → CoversSpans (λ i. get_or t (i * 13 + 2) 0) (λ i. get_or t (i * 13 + 2 + 1) 0) r → CoversSpans (first_in t Planned) (last_in t Planned) r
planned_covers t {r} w =
    record {
      least = w.least;
      most = w.most;
      ahead = w.ahead;
      begins = w.begins;
      starts = w.starts;
      ends = λ i h. subst (λ (k : ℕ). get_or t k 0 ≤ r.to) (last_place_lem i) (w.ends i h);
    }

-- ---- the dates that are asked, within the stretch

module _ {s : List ℕ} {date : Option ℕ} {plan : Plan} (p : IsPlanOf s date plan) {schedule : List ℕ} (e : schedule ≡ schedule_of (content s)) {known : Stretch}
    (c : CoversSpans (first_in schedule Planned) (last_in schedule Planned) known) (from to : ℕ) {lo hi : ℕ} (f : lo ≡ max from known.from) (g : hi ≡ min to known.to)
  where
    pub spending_narrow : spending_between (content s) lo hi ≡ spending_between (content s) from to
    unfolding spending_between
    spending_narrow = ap₂ (points_between (budget_by_day (content s))) f g ∙ points_narrow (budget_by_day (content s)) from to known.from known.to (budget_within p e c)

    pub spending_none : hi < lo → spending_between (content s) from to ≡ []
    unfolding spending_between
    spending_none h = sym spending_narrow ∙ points_none (budget_by_day (content s)) lo hi h

module _ {s : List ℕ} {asked : Asked} {schedule : List ℕ} (a : IsAsked s asked schedule) where
  pub asked_plan : IsPlanOf s asked.opened.date asked.opened.plan
  asked_plan = a.opened.plan

  asked_range : InRange (content s)
  asked_range = content_in_range s asked_plan.accepted

  pub asked_calendars : Every CalendarInRange (alike_in layout.calendar s asked.opened.plan.calendars)
  asked_calendars = rw asked_plan.calendars.listed at asked_range.calendars

  -- ---- the tables

  module _ {days : List ℕ} (room : asked.opened.plan.calendars.count * dates_of asked.known ≤ length days) {rates links : List ℕ} {units : List ℤ} {heads : List ℕ}
      (charged : IsCharged s asked rates links units heads)
    where
      -- what laying needs
      pub asked_ready : AreCharged asked.frame.assignments rates links units heads × AreSpans asked.frame.base asked.frame.width days schedule
      asked_ready =
          subst (λ (f : Frame). AreCharged f.assignments rates links units heads × AreSpans f.base f.width days schedule) (sym a.framed)
          (record { book = content s; are = charged }, spans_are asked_plan a.scheduled a.covers room)

      -- and what is laid then
      pub asked_laid :
          ShowsAll (alike_in layout.calendar s asked.opened.plan.calendars) asked.known.from asked.known.to days → {before after : List ℕ} →
          ((b : Book) → Charged b asked.frame.assignments rates links units heads → IsScheduled b asked.frame.base asked.frame.width days schedule → Laid asked.frame.base (budget_by_day b) before after) →
          Laid asked.known.from (budget_by_day (content s)) before after
      asked_laid shown {before} {after} l =
          subst
          (λ (f : Frame). ((b : Book) → Charged b f.assignments rates links units heads → IsScheduled b f.base f.width days schedule → Laid f.base (budget_by_day b) before after)) a.framed l
          (content s) charged (spans_listed asked_plan a.scheduled a.covers room shown)

  pub asked_charged :
      {links : List ℕ} {units : List ℤ} → AreTables (content s) asked.opened.plan.assignments.count links units →
      {rates : List ℕ} → rates ≡ flat_map rate_row (alike_in layout.resource s asked.opened.plan.resources) → {after heads : List ℕ} → Chained links after heads →
      IsCharged s asked rates after units heads
  unfolding rates_of
  asked_charged t e c = charged_are t asked_range (e ∙ sym (ap (flat_map rate_row) asked_plan.resources.listed)) c

  -- ---- tables by date

  pub full_dates : dates_of asked.known ≤ 36525
  full_dates = omega (arith, a.covers.least, a.covers.most)

  -- the days of all calendars over at most n dates
  pub short_days : (n : ℕ) → dates_of asked.known ≤ n → asked.opened.plan.calendars.count * dates_of asked.known ≤ 16 * n
  short_days n h = omega (arith, mul-le-mul_right (dates_of asked.known) (calendars_most asked_plan))

  pub full_charges : charge_count asked.opened.plan ≤ 3000
  full_charges = omega (arith, assignments_most asked_plan, expenses_most asked_plan)

  -- ---- the points

  module _ {before after : List ℕ} (w : IsEmpty (dates_of asked.known) before) (l : Laid asked.known.from (budget_by_day (content s)) before after) where
    -- the table has the dates that are asked
    pub asked_reach : Reaches asked.known.from after asked.from asked.to
    asked_reach =
        record {
          start = a.begins;
          reach = omega (arith, a.begins, a.rises, a.ends, w.room, l.long);
          latest = omega (arith, a.ends, a.covers.most);
        }

    -- what is laid onto it makes the rows
    pub asked_rows :
        {out end : List ℕ} {r : Reply} → Writes asked.grain (points_in asked.known.from after asked.from asked.to) out r end →
        Writes asked.grain (spending_between (content s) asked.from asked.to) out r end
    unfolding spending_between
    asked_rows p =
        let laid = subst (λ (t : List ℕ). Laid asked.known.from (budget_by_day (content s)) t after) w.empty l in
        writes_same asked.grain (points_laid (length before) laid asked_reach) p
