-- `put` meets its contract: past the end nothing is set.
use mathlib.Core.Path.{sym}
use lib.Seq.{set_out}
use Rattle.bydate.proofs.points.put.Goals as goal

pub returns-else-i-numbers : goal.returns-else-i-numbers
returns-else-i-numbers c = sym (set_out _ _ _ c.if-i-numbers.false)
