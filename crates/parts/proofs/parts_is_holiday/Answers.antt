-- `parts_is_holiday` meets its contract: by the test.
use mathlib.Core.Path.{◌≡◌, refl, ap, ◌∙◌}
use mathlib.Core.Bool.{Bool, true, false, cond}
use mir.Val.{bool_byte}
use mir.Facts.{to_z-of_z}
use Rattle.holidays.specs.Holiday.{is_holiday}
use Rattle.parts.proofs.parts_is_holiday.Goals as goal

as_number : (b : Bool) → bool_byte b ≡ cond b 1 0
as_number true = refl
as_number false = refl

pub returns : goal.returns
returns c = c.from.ensures ∙ ap bool_byte (c.is_holiday.ensures ∙ ap is_holiday (to_z-of_z c.ranges.days)) ∙ as_number (is_holiday c.args.days)
