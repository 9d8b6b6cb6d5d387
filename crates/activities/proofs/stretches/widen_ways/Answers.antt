-- `widen_ways` meets its contract: one way after the other.
use borrow.Author.Rules.{rules}
use Rattle.activities.specs.Stretches.{widened_ways}
use Rattle.activities.proofs.stretches.widen_ways.Goals as goal

pub returns : goal.returns
unfolding widened_ways
returns c =
    rw (← c.widen-planned.ensures, ← c.widen-actual.ensures) c.widen.ensures
