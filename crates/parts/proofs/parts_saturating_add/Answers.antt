-- `parts_saturating_add` meets its contract: by its call.
use mathlib.Core.Path.{ap₂, ◌∙◌}
use lib.IntN.{ℤ, ◌+ℤ◌}
use mir.Syntax.{w64}
use mir.Facts.{to_z-of_z}
use Rattle.integer.specs.Linear.{back}
use Rattle.integer.specs.Clamp.{clamp}
use Rattle.parts.proofs.parts_saturating_add.Goals as goal

pub returns : goal.returns
returns c = back w64 _ c.saturating_add.type_inv ∙ c.saturating_add.ensures ∙ ap₂ (λ (x y : ℤ). clamp w64 (x +ℤ y)) (to_z-of_z c.ranges.a) (to_z-of_z c.ranges.b)
