-- `parts_spent` meets its contract: the share that its call gives, or the number that stands for none.
use mathlib.Core.Path.{ap, ap₂, ◌∙◌}
use lib.IntN.{ℤ}
use mir.Syntax.{w64}
use mir.Facts.{to_z-of_z}
use Rattle.std.specs.Prelude.{Option, unwrap_or}
use Rattle.integer.specs.Linear.{back}
use Rattle.money.specs.Scale.{spent_of}
use Rattle.parts.specs.Numbers.{absent}
use Rattle.parts.proofs.parts_spent.Goals as goal

pub returns : goal.returns
returns c =
    back w64 _ c.unwrap_or.type_inv ∙ c.unwrap_or.ensures
    ∙ ap (λ (o : Option ℤ). unwrap_or o absent) (c.spent.ensures ∙ ap₂ spent_of (to_z-of_z c.ranges.actual) (to_z-of_z c.ranges.budget))
