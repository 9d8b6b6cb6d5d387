-- The measure of `down` is the number of levels left. The loop's invariant: what is put so far, with what is left of the chain, is all.
use lib.ListN.{length}
use Rattle.descent.specs.Links.{chain_from}
use Rattle.descent.proofs.Turns.{Going}
use Rattle.descent.proofs.+down.Given as goal

abbrev pub decreases-down : goal.decreases-down
decreases-down l = l.left

abbrev pub invariant-loop-i : goal.invariant-loop-i
invariant-loop-i l = Going l.first l.next l.initial.lines l.left l.level l.p l.from l.lines l.made l.i

abbrev pub decreases-loop-i : goal.decreases-loop-i
decreases-loop-i l = length (chain_from l.next l.i)
