-- `step` meets its contract: the guess is never too small, and each turn lowers one that is too large. Assumes nothing.
use Rattle.wide.proofs.Digits.{Guess}
use Rattle.wide.proofs.division.step.Given as goal

abbrev pub invariant-loop-left : goal.invariant-loop-left
invariant-loop-left l = Guess l.rest l.next l.d l.q l.left

abbrev pub decreases-loop-left : goal.decreases-loop-left
decreases-loop-left l = l.q
