-- `weekday_number` meets its contract: by what is given.
use Prim.Native.Nat.{◌<◌}
use mathlib.Core.Path.{refl, ap, ◌∙◌}
use native.Mathlib.Omega.{arith}
use lib.IntN.{pos}
use mir.Syntax.{w64}
use mir.Facts.{to_z_pos}
use Rattle.integer.specs.Linear.{linear}
use Rattle.dates.specs.declared.week.Weekday.{Weekday}
use Rattle.dates.specs.declared.week.Weekday.TheVariants.{Monday, Tuesday, Wednesday, Thursday, Friday, Saturday, Sunday}
use Rattle.dates.specs.Week.{index_of}
use Rattle.parts.proofs.weekday_number.Goals as goal
use Rattle.parts.proofs.weekday_number.Goals.{After-index}

seven : (w : Weekday) → index_of w < 7
seven Monday = omega arith
seven Tuesday = omega arith
seven Wednesday = omega arith
seven Thursday = omega arith
seven Friday = omega arith
seven Saturday = omega arith
seven Sunday = omega arith

index_below : (c : After-index) → c.index.result < 7
index_below c = rw c.index.ensures (seven c.in-Some.w)

pub overflow_cast-result : goal.overflow_cast-result
overflow_cast-result c = omega (linear, index_below (goal.at.overflow_cast-result c).After-index)

pub returns-in-Some : goal.returns-in-Some
returns-in-Some c = rw c.in-Some.is (to_z_pos w64 {n = c.index.result} (omega (arith, index_below (goal.at.returns-in-Some c).After-index)) ∙ ap pos c.index.ensures)

pub returns-in-None : goal.returns-in-None
returns-in-None c = rw c.in-None.is refl
