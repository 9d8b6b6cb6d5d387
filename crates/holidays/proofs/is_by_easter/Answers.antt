-- `holidays::is_by_easter` meets its contract.
-- Assumes nothing.
use Rattle.std.specs.Prelude.{Some}
use mathlib.Core.Path.{◌≡◌, ap, sym, ◌∙◌}
use mathlib.Core.Bool.{true}
use lib.IntN.{ℤ, ◌-ℤ◌}
use mir.Syntax.{w32}
use mir.Val.{to_z, of_z}
use mir.Facts.{to_z-of_z}
use Rattle.dates.specs.Date.{is_day}
use Rattle.computus.specs.Easter.{easter_of}
use Rattle.holidays.specs.Holiday.{is_movable, by_easter}
use Rattle.computus.proofs.Meeus.{easter_day}
use Rattle.holidays.proofs.Ranges.{day_fits, distance_fits}
use Rattle.holidays.proofs.is_by_easter.Goals as goal
use Rattle.holidays.proofs.is_by_easter.Goals.{In-Some}

-- Easter Sunday e, and the code's distance from it
module _ (days e : ℤ) (day : is_day days ≡ true) (sunday : is_day e ≡ true) where
  distance : to_z w32 (of_z w32 days) -ℤ to_z w32 (of_z w32 e) ≡ days -ℤ e
  distance = rw (to_z-of_z (day_fits days day), to_z-of_z (day_fits e sunday))

sunday : (c : In-Some) → easter_of c.args.year ≡ Some c.in-Some.sunday
sunday c = ap easter_of (sym (to_z-of_z c.ranges.year)) ∙ sym c.easter.ensures ∙ c.in-Some.is

in_range_lem : (c : In-Some) → is_day c.in-Some.sunday ≡ true
in_range_lem c = easter_day _ c.in-Some.sunday (sunday c)

pub overflow_sub-days : goal.overflow_sub-days
overflow_sub-days c =
    let i = in_range_lem (goal.at.overflow_sub-days c).In-Some in
    rw (distance _ _ c.requires i) (distance_fits _ _ c.requires i)

pub returns-in-Some : goal.returns-in-Some
unfolding by_easter
returns-in-Some c =
    let i = in_range_lem (goal.at.returns-in-Some c).In-Some in
    let f = distance_fits _ _ c.requires i in
    rw (sunday (goal.at.returns-in-Some c).In-Some) (c.is_movable.ensures ∙ ap is_movable (ap (λ (v : ℤ). to_z w32 (of_z w32 v)) (distance _ _ c.requires i) ∙ to_z-of_z f))

pub returns-in-None : goal.returns-in-None
unfolding by_easter
returns-in-None c =
    let n = ap easter_of (sym (to_z-of_z c.ranges.year)) ∙ sym c.easter.ensures ∙ c.in-None.is in
    rw n
