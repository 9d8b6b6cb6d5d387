-- `lay_spread` meets its contract: on the first date alone, or over the working dates.
use mathlib.Core.Path.{sym, ap, ◌∙◌}
use mathlib.Core.List.{[], ◌∷◌}
use lib.IntN.{ℤ}
use mir.Facts.{to_z-of_z}
use Rattle.model.specs.Amounts.{on}
use Rattle.laid.specs.declared.deal.Deal.{Deal}
use Rattle.laid.specs.Dealt.{dealt, of_deal, deal_of}
use Rattle.laid.specs.Listed.{worked_in}
use Rattle.laid.proofs.Laying.{laid_same}
use Rattle.laid.proofs.Dealing.{spread_alone, spread_some}
use Rattle.laid.proofs.spread.lay_spread.Goals as goal

pub returns-then-span-eq0 : goal.returns-then-span-eq0
returns-then-span-eq0 c =
    let days = worked_in c.args.days.now c.args.span c.args.span.first c.args.span.last in
    laid_same
    (ap (λ (z : ℤ). on c.args.span.first z ∷ []) (to_z-of_z c.ranges.amount)
    ∙ spread_alone c.args.span.first days c.args.amount (sym c.requires.counted ∙ c.if-span-eq0.true))
    c.lay.ensures

pub returns : goal.returns
returns c =
    let n = c.args.span.working in
    let days = worked_in c.args.days.now c.args.span c.args.span.first c.args.span.last in
    laid_same
    (ap (λ (d : Deal). dealt (λ e. of_deal d) 0 days) (c.deal_of-deal.ensures ∙ ap (λ (z : ℤ). deal_of z n) (to_z-of_z c.ranges.amount))
    ∙ spread_some c.args.span.first days c.args.amount n c.requires.counted c.if-span-eq0.false)
    c.lay_days.ensures.laid
