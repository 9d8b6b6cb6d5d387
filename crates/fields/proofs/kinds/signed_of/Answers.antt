-- `signed_of` meets its contract: the half fits, and so does what stands that far below -1.
use native.Mathlib.Omega.{arith}
use borrow.Author.Tests.{eq-eqb, ne_eqb}
use Rattle.format.specs.Signed.{received}
use Rattle.fields.proofs.Signed.{half, below_fits, below_kept}
use Rattle.fields.proofs.kinds.signed_of.Goals as goal

pub overflow_sub-result : goal.overflow_sub-result
overflow_sub-result c = below_fits c.args.v (omega arith)

pub returns-then-v-eq0 : goal.returns-then-v-eq0
unfolding received
returns-then-v-eq0 c = rw (eq-eqb _ _ c.if-v-eq0.true) (half c.args.v (omega arith))

pub returns-else-v-eq0 : goal.returns-else-v-eq0
unfolding received
returns-else-v-eq0 c = rw (ne_eqb _ _ c.if-v-eq0.false) (below_kept c.args.v (omega arith))
