-- `parts_earned` meets its contract: by its call.
use mathlib.Core.Path.{ap, ◌∙◌}
use lib.IntN.{ℤ}
use mir.Syntax.{w64}
use mir.Facts.{to_z-of_z}
use Rattle.integer.specs.Linear.{back}
use Rattle.floats.specs.Figures.{earned_of}
use Rattle.parts.proofs.parts_earned.Goals as goal

pub returns : goal.returns
returns c = back w64 _ c.earned.type_inv ∙ c.earned.ensures ∙ ap (λ (z : ℤ). earned_of z c.args.done) (to_z-of_z c.ranges.budget)
