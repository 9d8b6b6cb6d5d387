-- `link` meets its contract. The loop's invariant: the columns chain the activities from i on.
use Rattle.descent.proofs.Links.{Linking}
use Rattle.descent.proofs.link.Given as goal

abbrev pub invariant-loop-i : goal.invariant-loop-i
invariant-loop-i l = Linking l.parents l.first l.next l.i
