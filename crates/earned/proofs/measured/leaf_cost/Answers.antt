-- `leaf_cost` meets its contract: by the mark.
use mathlib.Core.Path.{refl}
use mir.Syntax.{w64}
use borrow.Author.Rules.{rules}
use borrow.Author.Tests.{eq-eqb, ne_eqb}
use Rattle.integer.specs.Linear.{back}
use Rattle.earned.proofs.measured.leaf_cost.Goals as goal

pub returns-then-parent-eq0 : goal.returns-then-parent-eq0
returns-then-parent-eq0 c = rw (eq-eqb _ _ c.if-parent-eq0.true) (back w64 _ c.result-1.given)

pub returns : goal.returns
returns c = rw (ne_eqb _ _ c.if-parent-eq0.false) refl
