-- `walk_up` meets its contract. The loop's invariant: the steps made, with those that are ahead, are the whole walk's.
use Prim.Native.Nat.{◌+◌, ◌-◌}
use mathlib.Core.Path.{◌≡◌}
use lib.ListN.{length}
use Rattle.model.specs.Tree.{walk}
use Rattle.tree.specs.Figures.{parents_of}
use Rattle.tree.proofs.Walks.{ahead}
use Rattle.tree.proofs.walk_up.Given as goal

abbrev pub invariant-loop-made : goal.invariant-loop-made
invariant-loop-made l =
    l.made + length (ahead l.parents (l.limit - l.made) l.at) ≡ length (walk (parents_of l.parents) l.limit l.from)

abbrev pub decreases-loop-made : goal.decreases-loop-made
decreases-loop-made l = l.limit - l.made
