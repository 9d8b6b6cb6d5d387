-- `factor` meets its contract: d times 2 to its leading zeros is below 2^64. Assumes nothing.
use native.Mathlib.Omega.{arith}
use Rattle.wide.proofs.Quotients.{power, zeros_short}
use Rattle.wide.proofs.division.factor.Goals as goal

pub overflow_shl-result : goal.overflow_shl-result
overflow_shl-result c = zeros_short c.args.d c.requires (omega arith)

pub overflow_cast-result : goal.overflow_cast-result
overflow_cast-result c = omega (arith, overflow_shl-result c)

pub returns : goal.returns
returns c = power c.args.d c.requires (omega arith)
