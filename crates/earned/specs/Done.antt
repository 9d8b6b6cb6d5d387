-- How much of an activity is done, from what the schedule says of it and from the units of its assignments.
use Rattle.std.specs.Prelude.{ℕ, List, ℤ, Float}
use Rattle.format.specs.declared.EvTechnique.{EvTechnique}
use Rattle.format.specs.Enumeration.{status_of}
use Rattle.model.specs.Earned.{performance_by}
use Rattle.activities.specs.Schedule.{percent_of, entry_at}

-- of activity i of the schedule
unfoldable pub done_in : EvTechnique → List ℕ → ℕ → ℤ → ℤ → Float
done_in technique schedule i done all =
    performance_by technique (status_of (entry_at schedule i 8)) (percent_of (entry_at schedule i 11) (entry_at schedule i 12)) (entry_at schedule i 9) (entry_at schedule i 10) done all
