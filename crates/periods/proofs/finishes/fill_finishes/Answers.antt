-- `fill_finishes` meets its contract: one period a turn.
use Prim.Native.Nat.{ℕ, ◌-◌}
use mathlib.Core.Path.{refl, sym, ◌∙◌}
use mathlib.Core.List.{map-id}
use borrow.Author.Rules.{rules}
use Rattle.format.specs.Field.{D}
use Rattle.format.specs.Codec.{field}
use Rattle.sections.specs.Sections.{elements}
use Rattle.sections.proofs.Filled.{Filled, filled_none, filled_more, filled_end}
use Rattle.periods.proofs.finishes.fill_finishes.Goals as goal

pub loop-i-init : goal.loop-i-init
loop-i-init c = filled_none _ _ _ _ _ _ c.requires

pub loop-i-preserved : goal.loop-i-preserved
loop-i-preserved c =
    let loop = c.loop-i in
    filled_more loop.invariant c.loop-i-test.true c.date-finish.ensures refl

pub shape_of-out : goal.shape_of-out
shape_of-out c = c.loop-i.invariant.long ∙ sym c.requires

pub returns : goal.returns
unfolding elements
returns c = filled_end c.loop-i.invariant c.loop-i-test.false ∙ map-id _
