-- `fill_budgets` meets its contract: one figure a turn.
use lib.IntN.{pos}
use Rattle.baseline.proofs.Entries.{Entered}
use Rattle.baseline.proofs.Listing.{budget_in}
use Rattle.baseline.proofs.listed.fill_budgets.Given as goal

abbrev pub invariant-loop-i : goal.invariant-loop-i
invariant-loop-i l = Entered (pos 0) (budget_in l.parents l.lines l.costs) l.initial.out l.i l.out
