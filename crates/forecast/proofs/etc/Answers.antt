-- `etc` meets its contract, technique by technique.
use mathlib.Core.Path.{ap, ap₂, sym, ◌∙◌}
use mir.Syntax.{w64}
use borrow.Author.Rules.{rules}
use Rattle.integer.specs.Linear.{back}
use Rattle.floats.specs.Figures.{both_of, at_rate_of}
use Rattle.format.specs.declared.EtcTechnique.{EtcTechnique}
use Rattle.model.specs.Forecast as definition
use Rattle.forecast.proofs.etc.Goals as goal

pub returns-in-Remaining : goal.returns-in-Remaining
unfolding definition.etc
returns-in-Remaining c =
    let e = c.args.e in
    back w64 e.remaining c.struct_told-1.given.1.1.1.1.0.1
    ∙ sym (ap (λ (t : EtcTechnique). definition.etc t e) c.in-Remaining.is)

pub returns-in-Planned : goal.returns-in-Planned
unfolding definition.etc
returns-in-Planned c =
    let e = c.args.e in
    back w64 c.to_earn.result c.to_earn.type_inv ∙ c.to_earn.ensures
    ∙ sym (ap (λ (t : EtcTechnique). definition.etc t e) c.in-Planned.is)

pub returns-in-Cpi : goal.returns-in-Cpi
unfolding definition.etc
returns-in-Cpi c =
    let left = c.to_earn-in-Cpi in
    let e = c.args.e in
    back w64 c.at_rate.result c.at_rate.type_inv ∙ c.at_rate.ensures
    ∙ ap₂ at_rate_of (back w64 left.result left.type_inv ∙ left.ensures) c.cpi.ensures
    ∙ sym (ap (λ (t : EtcTechnique). definition.etc t e) c.in-Cpi.is)

pub returns-in-CpiSpi : goal.returns-in-CpiSpi
unfolding definition.etc
returns-in-CpiSpi c =
    let left = c.to_earn-in-CpiSpi in
    let e = c.args.e in
    back w64 c.at_rate-in-CpiSpi.result c.at_rate-in-CpiSpi.type_inv ∙ c.at_rate-in-CpiSpi.ensures
    ∙ ap₂ at_rate_of (back w64 left.result left.type_inv ∙ left.ensures)
    (c.both.ensures ∙ ap₂ both_of c.cpi-in-CpiSpi.ensures c.spi.ensures)
    ∙ sym (ap (λ (t : EtcTechnique). definition.etc t e) c.in-CpiSpi.is)
