-- `twelve_sums` meets its contract: the loop keeps the sums so far, and the window at the month before the next.
use lib.ListN.{length}
use Rattle.money.specs.Exact.{value_of}
use Rattle.twelve.specs.Parts.{monthly_in}
use Rattle.twelve.proofs.Windows.{Summing}
use Rattle.twelve.proofs.window.twelve_sums.Given as goal

abbrev pub invariant-loop-k : goal.invariant-loop-k
invariant-loop-k l = Summing (monthly_in l.table l.reach) l.first (length l.initial.sums) l.k (value_of l.window) l.sums
