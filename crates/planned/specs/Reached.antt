-- What planned value is made of, in an accepted book: the listed spans and the leaves' budgets, and the days of the calendars over the stretch that the spans take.
use Rattle.std.specs.Prelude.{ℕ, ◌*◌, ◌≤◌, ◌≡◌, List, ℤ, length}
use Rattle.format.specs.Book.{Book}
use Rattle.format.specs.Format as layout
use Rattle.format.specs.InRange.{InRange, Limits}
use Rattle.format.specs.Verdict.{content, Accepted}
use Rattle.book.specs.Plan.{Placed}
use Rattle.calendar.specs.Tables.{ShowsAll}
use Rattle.spans.specs.declared.Stretch.{Stretch}
use Rattle.spans.specs.Stretches.{CoversSpans}
use Rattle.baseline.specs.Listed.{listed_of, budgets_of, first_at, last_at}
use Rattle.bydate.specs.Sizes.{dates_of}
use Rattle.planned.specs.declared.Reach.{Reach}

-- the calendars of the book, and a stretch that its listed spans are within
pub record IsReach (s : List ℕ) (reach : Reach) (listed : List ℕ) (budgets : List ℤ) : Type 0 where
  pub accepted : Accepted s
  pub calendars : Placed layout.calendar s reach.calendars (content s).calendars
  pub spans : listed ≡ listed_of (content s)
  pub budgeted : budgets ≡ budgets_of (content s)
  pub covers : CoversSpans (first_at listed) (last_at listed) reach.known

-- and a table of the days of its calendars over the stretch
pub record AreDays (b : Book) (known : Stretch) (listed : List ℕ) (budgets : List ℤ) (days : List ℕ) : Type 0 where
  pub range : InRange b
  pub limits : Limits b
  pub spans : listed ≡ listed_of b
  pub budgeted : budgets ≡ budgets_of b
  pub covers : CoversSpans (first_at listed) (last_at listed) known
  pub room : length b.calendars * dates_of known ≤ length days
  pub shows : ShowsAll b.calendars known.from known.to days
