-- The reach of an accepted book, and the days of its calendars over it.
use Prim.Native.Nat.{ℕ, ◌*◌, ◌≤◌}
use native.Mathlib.Nat.{mul-le-mul_right}
use native.Mathlib.Omega.{arith}
use mathlib.Core.List.{List}
use lib.IntN.{ℤ}
use lib.ListN.{length}
use Rattle.format.specs.Format as layout
use Rattle.format.specs.InRange.{Every, CalendarInRange}
use Rattle.format.specs.Verdict.{content}
use Rattle.format.proofs.Theorems.{content_limits, content_in_range}
use Rattle.sections.specs.Sections.{alike_in}
use Rattle.book.proofs.Plan.{placed_count}
use Rattle.calendar.specs.Tables.{ShowsAll}
use Rattle.bydate.specs.Sizes.{dates_of}
use Rattle.planned.specs.declared.Reach.{Reach}
use Rattle.planned.specs.Tabled.{AreTabled}
use Rattle.planned.specs.Reached.{IsReach, AreDays}
use Rattle.planned.proofs.Tabling.{lists_tabled}

module _ {s : List ℕ} {reach : Reach} {listed : List ℕ} {budgets : List ℤ} (a : IsReach s reach listed budgets) where
  pub reach_calendars : Every CalendarInRange (alike_in layout.calendar s reach.calendars)
  reach_calendars = rw a.calendars.listed at (content_in_range s a.accepted).calendars

  pub reach_few : reach.calendars.count ≤ 16
  reach_few = omega (arith, placed_count a.calendars, (content_limits s a.accepted).calendars)

  -- a table for all dates of a book and as many calendars as it may have
  pub reach_full : reach.calendars.count * dates_of reach.known ≤ 584400
  reach_full =
      let dates : dates_of reach.known ≤ 36525 = omega (arith, a.covers.least, a.covers.most) in
      omega (arith, dates, mul-le-mul_right (dates_of reach.known) reach_few)

  module _ {days : List ℕ} (room : reach.calendars.count * dates_of reach.known ≤ length days) where
    pub reach_tabled : AreTabled reach.known.from (dates_of reach.known) (length budgets) days listed
    reach_tabled = lists_tabled (content s) a.spans a.budgeted (content_in_range s a.accepted) (content_limits s a.accepted) a.covers (rw (placed_count a.calendars) room)

    pub reach_days : ShowsAll (alike_in layout.calendar s reach.calendars) reach.known.from reach.known.to days → AreDays (content s) reach.known listed budgets days
    reach_days shown =
        record {
          range = content_in_range s a.accepted;
          limits = content_limits s a.accepted;
          spans = a.spans;
          budgeted = a.budgeted;
          covers = a.covers;
          room = rw (placed_count a.calendars) room;
          shows = rw a.calendars.listed shown;
        }
