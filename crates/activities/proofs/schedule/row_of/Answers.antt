-- `row_of` meets its contract: each number is what its function says.
use Prim.Native.Nat.{ℕ}
use mathlib.Core.Path.{◌≡◌, refl}
use denote.Enum.Declared.{tag_of}
use Rattle.format.specs.contracts.Status.{the_type}
use Rattle.format.specs.declared.Status.{Status}
use Rattle.format.specs.declared.Status.TheVariants.{NotStarted, InProgress, Completed}
use Rattle.format.specs.Enumeration.{status_number}
use Rattle.records.specs.Decoded.{activity_of}
use Rattle.spans.specs.Columns.{parent_number, calendar_number, first_date, last_date}
use Rattle.activities.specs.Schedule.{schedule_row}
use Rattle.activities.proofs.schedule.row_of.Goals as goal

numbered : (s : Status) → tag_of the_type s ≡ status_number s
unfolding status_number
numbered NotStarted = refl
numbered InProgress = refl
numbered Completed = refl

pub returns : goal.returns
unfolding schedule_row activity_of parent_number calendar_number first_date last_date
returns c =
    rw (
      ← c.mark_of.ensures,
      ← c.number_or.ensures,
      ← c.actual_from-from.ensures,
      ← c.actual_to.ensures,
      ← c.remaining_since.ensures,
      ← numbered c.args.activity.status,
      ← c.given.ensures,
      ← c.percent_bits.ensures,
    )
