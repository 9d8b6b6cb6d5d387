-- `short` meets its contract: nothing near the end, else one byte or what `behind` reads.
use native.Mathlib.Omega.{arith}
use Rattle.fields.proofs.Groups.{one_byte}
use Rattle.fields.proofs.numbers.short.Goals as goal

pub returns-then-first-lt128 : goal.returns-then-first-lt128
returns-then-first-lt128 c = one_byte _ _ _ (omega arith) c.from-first.ensures (omega arith)

pub returns-then-n-lt128 : goal.returns-then-n-lt128
returns-then-n-lt128 c = c.behind-n.ensures c.if-n-eq0.false (omega arith)
