-- `parts_has_spent` meets its contract: 1 for the share that its call gives, 0 for none.
use mathlib.Core.Path.{◌≡◌, refl, ap, ap₂, ◌∙◌}
use lib.IntN.{ℤ}
use mir.Val.{bool_byte}
use mir.Facts.{to_z-of_z}
use Rattle.std.specs.Prelude.{Option, Some, None, is_some}
use Rattle.money.specs.Scale.{spent_of}
use Rattle.parts.specs.Numbers.{presence}
use Rattle.parts.proofs.parts_has_spent.Goals as goal

there : (share : Option ℤ) → bool_byte (is_some share) ≡ presence share
there None = refl
there (Some z) = refl

pub returns : goal.returns
returns c =
    c.from.ensures ∙ ap bool_byte c.is_some.ensures ∙ there c.spent.result
    ∙ ap presence (c.spent.ensures ∙ ap₂ spent_of (to_z-of_z c.ranges.actual) (to_z-of_z c.ranges.budget))
