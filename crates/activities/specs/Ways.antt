-- The three ways, by number.
use Rattle.std.specs.Prelude.{ℕ}
use Rattle.model.specs.declared.Way.{Way}
use Rattle.model.specs.declared.Way.TheVariants.{Planned, Actual, Remaining}

-- a way's place among three
abbrev pub way_number : Way → ℕ
way_number Planned = 0
way_number Actual = 1
way_number Remaining = 2
