-- `planned_by` meets its contract: by the two counts of the walk.
use mathlib.Core.Path.{ap, ◌∙◌}
use lib.IntN.{ℤ}
use mir.Syntax.{w64}
use mir.Facts.{to_z-of_z}
use Rattle.integer.specs.Linear.{back}
use Rattle.integer.specs.Sums.{ints, sum}
use Rattle.money.specs.Shares.{share_of}
use Rattle.planned.proofs.Portions.{walked_some, walked_planned}
use Rattle.planned.proofs.walk.planned_by.Goals as goal

pub cumulative-requires : goal.cumulative-requires
cumulative-requires c = let a = c.args in walked_some a.row a.base a.days.now a.date a.first a.last c.walk_days-walked.ensures

pub returns : goal.returns
returns c =
    let a = c.args in
    let w = c.walk_days-walked in
    back w64 c.cumulative.result c.cumulative.type_inv ∙ c.cumulative.ensures
    ∙ ap (λ (z : ℤ). sum ints (share_of z w.result.listed) w.result.up_to) (to_z-of_z c.ranges.amount)
    ∙ walked_planned a.row a.base a.days.now a.date a.first a.last w.ensures a.amount c.ranges.amount

pub walk_days-walked-requires : goal.walk_days-walked-requires
walk_days-walked-requires c = c.requires
