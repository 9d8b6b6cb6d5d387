-- The stretch of dates that the spans of the activities take.
use Rattle.std.specs.Prelude.{ℕ, List}
use Rattle.model.specs.declared.Way.TheVariants.{Planned, Actual, Remaining}
use Rattle.spans.specs.declared.Stretch.{Stretch}
use Rattle.spans.specs.Stretches.{widened}
use Rattle.activities.specs.Schedule.{first_in, last_in}

-- a stretch that takes the spans of an activity of the schedule, three ways
unfoldable pub widened_ways : List ℕ → ℕ → Stretch → Stretch
widened_ways schedule i known =
    widened (widened (widened known (first_in schedule Planned i) (last_in schedule Planned i)) (first_in schedule Actual i) (last_in schedule Actual i)) (first_in schedule Remaining i) (last_in schedule Remaining i)
