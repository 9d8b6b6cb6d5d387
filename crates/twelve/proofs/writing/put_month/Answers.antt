-- `put_month` meets its contract: three numbers set one behind the other.
use native.Mathlib.Omega.{arith}
use mathlib.Core.Path.{ap, ◌∙◌}
use lib.ListN.{length-set}
use mir.Syntax.{w64}
use Rattle.integer.specs.Linear.{back}
use Rattle.money.specs.Words.{bits}
use Rattle.twelve.proofs.Largest.{row_set}
use Rattle.twelve.proofs.writing.put_month.Goals as goal

pub returns : goal.returns
returns c = let a = c.args in row_set a.out.now a.at a.first a.mark a.sum (c.to_bits.ensures ∙ ap bits (back w64 a.sum c.ranges.sum.sfits))

pub bounds-out-at-2 : goal.bounds-out-at-2
bounds-out-at-2 c = simp length-set (omega (arith, c.requires))

pub bounds-out-at-3 : goal.bounds-out-at-3
bounds-out-at-3 c = simp length-set (omega (arith, c.requires))

pub shape_of-out : goal.shape_of-out
shape_of-out c = simp length-set
