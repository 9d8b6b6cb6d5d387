-- `put_estimates` meets its contract: three numbers, each of the one before.
use mathlib.Core.Path.{ap₂, ◌∙◌}
use lib.IntN.{ℤ, ◌+ℤ◌}
use mir.Syntax.{w64}
use Rattle.integer.specs.Linear.{back}
use Rattle.integer.specs.Clamp.{clamp}
use Rattle.model.specs.Forecast as definition
use Rattle.answers.specs.Rows.{estimates_row}
use borrow.Author.Rules.{rules}
use Rattle.forecast.proofs.put_estimates.Goals as goal

pub returns : goal.returns
unfolding estimates_row definition.eac definition.vac
returns c =
    let e = c.args.e in
    let left = c.etc-left in
    let total = c.saturating_add-total in
    let variance = c.saturating_sub-variance in
    let etc-is = back w64 left.result left.type_inv ∙ left.ensures in
    let eac-is =
    back w64 total.result total.type_inv ∙ total.ensures
    ∙ ap₂ (λ (x y : ℤ). clamp w64 (x +ℤ y)) (back w64 e.actual c.struct_told-1.given.1.1.1.0.1) etc-is
    in
    let vac-is =
    back w64 variance.result variance.type_inv ∙ variance.ensures
    ∙ ap₂ definition.less (back w64 e.budget c.struct_told-2-1.given.0.1) eac-is
    in
    rw (c.to_bits.ensures, c.to_bits-2.ensures, c.to_bits-3.ensures, etc-is, eac-is, vac-is)
