-- `product` meets its contract: no product of halves is too large, and together they are the whole product. Assumes nothing.
use mathlib.Core.Path.{refl}
use native.Mathlib.Omega.{arith}
use Rattle.wide.proofs.Halves.{shorts, joined, Short}
use Rattle.wide.proofs.words.product.Goals as goal
use Rattle.wide.proofs.words.product.Goals.{Start}

bounds : (c : Start) → Short c.args.u c.args.v
bounds c = shorts c.args.u c.args.v (omega arith) (omega arith)

pub overflow_mul-last : goal.overflow_mul-last
overflow_mul-last c = omega (arith, bounds (goal.at.overflow_mul-last c).Start)

pub overflow_mul-cross : goal.overflow_mul-cross
overflow_mul-cross c = omega (arith, bounds (goal.at.overflow_mul-cross c).Start)

pub overflow_add-cross : goal.overflow_add-cross
overflow_add-cross c = omega (arith, bounds (goal.at.overflow_add-cross c).Start)

pub overflow_mul-other : goal.overflow_mul-other
overflow_mul-other c = omega (arith, bounds (goal.at.overflow_mul-other c).Start)

pub overflow_add-other : goal.overflow_add-other
overflow_add-other c = omega (arith, bounds (goal.at.overflow_add-other c).Start)

pub overflow_mul-result : goal.overflow_mul-result
overflow_mul-result c = omega (arith, bounds (goal.at.overflow_mul-result c).Start)

pub overflow_add-result : goal.overflow_add-result
overflow_add-result c = omega (arith, bounds (goal.at.overflow_add-result c).Start)

pub overflow_add-result-2 : goal.overflow_add-result-2
overflow_add-result-2 c = omega (arith, bounds (goal.at.overflow_add-result-2 c).Start)

pub returns : goal.returns
returns c = joined c.args.u c.args.v _ _ _ refl refl refl
