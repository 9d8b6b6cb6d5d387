-- The spans of the planned days of an accepted book, and the days of its calendars in one table.
use Rattle.std.specs.Prelude.{Option, ℕ}
use Prim.Native.Nat.{ℕ, ◌+◌, ◌*◌, ◌-◌, ◌/◌, ◌≤◌, ◌<◌}
use mathlib.Core.Path.{◌≡◌, sym, ◌∙◌, subst}
use mathlib.Core.Bool.{true}
use mathlib.Core.List.{List, Memᴰ}
use native.Mathlib.Omega.{arith}
use lib.ListN.{length}
use Rattle.format.specs.Format as layout
use Rattle.format.specs.Verdict.{content}
use Rattle.book.specs.declared.layout.Plan.{Plan}
use Rattle.sections.specs.Sections.{alike_in}
use Rattle.book.specs.Plan.{IsPlanOf}
use Rattle.book.proofs.Plan.{calendars_count, activities_count, calendars_most, activities_in_range}
use Rattle.model.specs.declared.Way.TheVariants.{Planned}
use Rattle.model.specs.Lookup.{no_activity, calendar_at}
use Rattle.model.specs.Amounts.{is_charged}
use Rattle.model.specs.Costs.{budget_by_day}
use Rattle.calendar.specs.Tables.{ShowsAll}
use Rattle.calendar.proofs.Parts.{parts_room}
use Rattle.spans.specs.declared.Stretch.{Stretch}
use Rattle.spans.specs.Columns.{first_date}
use Rattle.activities.specs.Schedule.{schedule_of, calendar_in, first_in, last_in}
use Rattle.spans.specs.Stretches.{CoversSpans}
use Rattle.spans.proofs.Days.{days_in_lem, days_covered}
use Rattle.activities.proofs.Scheduling.{schedule_long_lem, schedule_most, schedule_calendar, schedule_days, first_at_lem}
use Rattle.bydate.proofs.Showing.{row_listed}
use Rattle.spending.specs.Charged.{AreSpans, IsScheduled}
use Rattle.spending.proofs.Within.{budget_day}

module _ {s : List ℕ} {date : Option ℕ} {plan : Plan} (p : IsPlanOf s date plan) {schedule : List ℕ} (e : schedule ≡ schedule_of (content s)) where
  activities_all : length schedule / 13 ≡ plan.activities.count
  activities_all = omega (arith, schedule_long_lem p e)

  -- each has a first date
  begins_some : (i : ℕ) → i < plan.activities.count → 0 < first_in schedule Planned i
  unfolding first_date
  begins_some i h =
      let inside : i < length (content s).activities = omega (arith, activities_count p) in
      omega (arith, first_at_lem (content s) e Planned i inside, (activities_in_range p i no_activity inside).early_start.first)

  -- what is charged to the budgets falls within a stretch that covers the spans
  pub budget_within : {r : Stretch} → CoversSpans (first_in schedule Planned) (last_in schedule Planned) r → (d : ℕ) → is_charged (budget_by_day (content s)) d ≡ true → (r.from ≤ d) × (d ≤ r.to)
  budget_within c d t =
      budget_day d (content s)
      (λ i h m. days_covered c (calendar_at (content s) (calendar_in schedule i)) i d (subst (Memᴰ d) (schedule_days p e i (omega (arith, activities_count p)) Planned) m))
      t

  module _ {known : Stretch} (c : CoversSpans (first_in schedule Planned) (last_in schedule Planned) known) {days : List ℕ}
      (room : plan.calendars.count * (known.to + 1 - known.from) ≤ length days)
    where
      pub spans_are : AreSpans known.from (known.to + 1 - known.from) days schedule
      spans_are =
          record {
            most = schedule_most p e;
            wide = omega (arith, c.most);
            few = λ i h. omega (arith, schedule_calendar p e i (omega (arith, activities_all)), calendars_most p);
            covers = λ i h.
                let l : i < plan.activities.count = omega (arith, activities_all) in
                let some = begins_some i l in
                record {
                  start = c.begins i some;
                  reach = omega (arith, c.ends i some, c.ahead, room, parts_room (known.to + 1 - known.from) (schedule_calendar p e i l));
                  latest = omega (arith, c.ends i some, c.most);
                };
          }

      pub spans_listed : ShowsAll (alike_in layout.calendar s plan.calendars) known.from known.to days → IsScheduled (content s) known.from (known.to + 1 - known.from) days schedule
      spans_listed shown =
          let shows : ShowsAll (content s).calendars known.from known.to days = rw p.calendars.listed shown in
          record {
            all = activities_all ∙ sym (activities_count p);
            listed = λ i h.
                let l : i < plan.activities.count = omega (arith, activities_all) in
                let some = begins_some i l in
                let calendar = calendar_in schedule i in
                row_listed shows calendar (omega (arith, schedule_calendar p e i l, calendars_count p)) (first_in schedule Planned i) (last_in schedule Planned i) (c.begins i some) (c.ends i some)
                ∙ sym (days_in_lem (calendar_at (content s) calendar) (first_in schedule Planned i) (last_in schedule Planned i) some)
                ∙ sym (schedule_days p e i l Planned);
          }
