-- The days of the week by their index, Monday 0, and back.
-- Assumes nothing.
use Rattle.std.specs.Prelude.{ℕ, List, [], ◌∷◌, get_or}
use Rattle.dates.specs.declared.week.Weekday.{Weekday}
use Rattle.dates.specs.declared.week.Weekday.TheVariants.{Monday, Tuesday, Wednesday, Thursday, Friday, Saturday, Sunday}

abbrev pub week : List Weekday
week = Monday ∷ Tuesday ∷ Wednesday ∷ Thursday ∷ Friday ∷ Saturday ∷ Sunday ∷ []

abbrev pub named : ℕ → Weekday
named k = get_or week k Sunday

abbrev pub index_of : Weekday → ℕ
index_of Monday = 0
index_of Tuesday = 1
index_of Wednesday = 2
index_of Thursday = 3
index_of Friday = 4
index_of Saturday = 5
index_of Sunday = 6
