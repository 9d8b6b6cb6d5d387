-- `fill_spans` meets its contract: one row a turn.
use Prim.Native.Nat.{◌*◌}
use mathlib.Core.Path.{◌≡◌}
use lib.ListN.{length}
use Rattle.lists.specs.Lists.{span}
use Rattle.flat.proofs.Written.{Written}
use Rattle.baseline.proofs.Listing.{span_in}
use Rattle.baseline.proofs.listed.fill_spans.Given as goal

abbrev pub invariant-loop-i : goal.invariant-loop-i
invariant-loop-i l = (length l.out ≡ l.n * 3) × Written 3 (span_in l.schedule l.lines) (span 0 l.n) l.i (l.i * 3) l.out
