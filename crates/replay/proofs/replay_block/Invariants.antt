-- `replay_block` stays within the block, and ends. Assumes nothing.
use borrow.Author.Rules.{rules}
use Prim.Native.Nat.{◌-◌, ◌≤◌}
use Rattle.replay.proofs.replay_block.Given as goal

abbrev pub invariant-loop-from : goal.invariant-loop-from
invariant-loop-from l = l.from ≤ l.full

abbrev pub decreases-loop-from : goal.decreases-loop-from
decreases-loop-from l = l.full - l.from
