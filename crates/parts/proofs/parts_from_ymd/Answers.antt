-- `parts_from_ymd` meets its contract: by its two calls.
use mathlib.Core.Path.{ap, ◌∙◌}
use lib.IntN.{ℤ}
use mir.Syntax.{w64}
use mir.Facts.{to_z-of_z}
use Rattle.integer.specs.Linear.{back}
use Rattle.dates.specs.Date.{from_ymd}
use Rattle.parts.specs.Numbers.{number_of}
use Rattle.parts.proofs.parts_from_ymd.Goals as goal

pub returns : goal.returns
returns c =
    back w64 _ c.number.type_inv ∙ c.number.ensures ∙ ap number_of (c.from_ymd.ensures ∙ ap (λ (z : ℤ). from_ymd z c.args.month c.args.day) (to_z-of_z c.ranges.year))
