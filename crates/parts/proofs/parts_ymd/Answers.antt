-- `parts_ymd` meets its contract: by its two calls.
use mathlib.Core.Path.{ap, ◌∙◌}
use mir.Syntax.{w64}
use mir.Facts.{to_z-of_z}
use Rattle.integer.specs.Linear.{back}
use Rattle.dates.specs.Date.{ymd_of}
use Rattle.parts.specs.Numbers.{date_number}
use Rattle.parts.proofs.parts_ymd.Goals as goal

pub returns : goal.returns
returns c =
    back w64 _ c.date_number.type_inv ∙ c.date_number.ensures ∙ ap date_number (c.ymd.ensures ∙ ap ymd_of (to_z-of_z c.ranges.days))
