-- `parts_weekday` meets its contract: by its two calls.
use mathlib.Core.Path.{ap, ◌∙◌}
use mir.Syntax.{w64}
use mir.Facts.{to_z-of_z}
use Rattle.integer.specs.Linear.{back}
use Rattle.dates.specs.Date.{weekday_of}
use Rattle.parts.specs.Numbers.{weekday_number}
use Rattle.parts.proofs.parts_weekday.Goals as goal

pub returns : goal.returns
returns c =
    back w64 _ c.weekday_number.type_inv ∙ c.weekday_number.ensures ∙ ap weekday_number (c.weekday.ensures ∙ ap weekday_of (to_z-of_z c.ranges.days))
