-- `cost` meets its contract: one call after the other.
use mathlib.Core.Path.{ap, ap₂, ◌∙◌}
use lib.IntN.{ℤ, ◌+ℤ◌, ◌-ℤ◌}
use mir.Syntax.{w64}
use mir.Facts.{to_z-of_z}
use Rattle.integer.specs.Linear.{back}
use Rattle.integer.specs.Clamp.{clamp}
use Rattle.money.specs.Words.{bits}
use Rattle.variances.proofs.completion.cost.Goals as goal

pub returns : goal.returns
returns c =
    let sum = c.saturating_add-completion in
    let frozen = c.from_bits in
    let difference = c.saturating_sub in
    let completion = back w64 sum.result sum.type_inv ∙ sum.ensures ∙ ap₂ (λ (x y : ℤ). clamp w64 (x +ℤ y)) (to_z-of_z c.ranges.spent) (to_z-of_z c.ranges.left) in
    c.to_bits.ensures
    ∙ ap bits (back w64 difference.result difference.type_inv ∙ difference.ensures ∙ ap₂ (λ (x y : ℤ). clamp w64 (x -ℤ y)) (back w64 frozen.result frozen.type_inv ∙ frozen.ensures) completion)
