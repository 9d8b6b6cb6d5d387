-- What is asked of an opened book, and what its tables are laid by.
use Rattle.std.specs.Prelude.{ℕ, ◌≤◌, ◌≡◌, List, ℤ}
use Rattle.format.specs.Verdict.{content}
use Rattle.model.specs.declared.Way.TheVariants.{Planned}
use Rattle.spans.specs.declared.Stretch.{Stretch}
use Rattle.activities.specs.Schedule.{schedule_of, first_in, last_in}
use Rattle.spans.specs.Stretches.{CoversSpans}
use Rattle.answers.specs.Opened.{IsOpened}
use Rattle.bydate.specs.Sizes.{dates_of}
use Rattle.spending.specs.declared.asked.Asked.{Asked}
use Rattle.spending.specs.declared.charged.Frame.{Frame}
use Rattle.spending.specs.Charged.{Charged}

-- the frame of tables for a stretch of dates
abbrev pub frame_of : Stretch → ℕ → Frame
frame_of known assignments = record { base = known.from; width = dates_of known; assignments = assignments }

-- of an accepted book with its schedule, between two dates of a stretch that covers the planned days
pub record IsAsked (s : List ℕ) (asked : Asked) (schedule : List ℕ) : Type 0 where
  pub opened : IsOpened s asked.opened
  pub scheduled : schedule ≡ schedule_of (content s)
  pub covers : CoversSpans (first_in schedule Planned) (last_in schedule Planned) asked.known
  pub framed : asked.frame ≡ frame_of asked.known asked.opened.plan.assignments.count
  pub begins : asked.known.from ≤ asked.from
  pub rises : asked.from ≤ asked.to
  pub ends : asked.to ≤ asked.known.to

-- the book's charges in tables
abbrev pub IsCharged : List ℕ → Asked → List ℕ → List ℕ → List ℤ → List ℕ → Type 0
IsCharged s asked rates links units heads = Charged (content s) asked.opened.plan.assignments.count rates links units heads
