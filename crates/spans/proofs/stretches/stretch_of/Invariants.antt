-- `stretch_of` meets its contract: one row a turn.
use Prim.Native.Nat.{◌+◌, ◌*◌}
use lib.ListN.{get_or}
use Rattle.spans.proofs.Covering.{Covering}
use Rattle.spans.proofs.stretches.stretch_of.Given as goal

abbrev pub invariant-loop-i : goal.invariant-loop-i
invariant-loop-i l =
    Covering (λ j. get_or l.table (j * l.width + l.at) 0) (λ j. get_or l.table (j * l.width + l.at + 1) 0) l.i l.known
