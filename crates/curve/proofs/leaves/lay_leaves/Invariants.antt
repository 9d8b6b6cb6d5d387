-- `lay_leaves` meets its contract: the loop keeps that with the activities that are left all are laid.
use mathlib.Core.Path.{ap}
use Prim.Native.Nat.{◌-◌}
use native.Mathlib.Omega.{arith}
use lib.IntN.{ℤ, pos}
use lib.ListN.{length, get_or}
use mir.Syntax.{w64}
use Rattle.integer.specs.Linear.{back}
use Rattle.model.specs.Amounts.{spread_over}
use Rattle.laid.specs.Listed.{listed_in}
use Rattle.laid.proofs.Laying.{Laying, laid_same}
use Rattle.planned.proofs.Tabling.{span_asked}
use Rattle.curve.specs.Budgeted.{budgets_laid}
use Rattle.curve.proofs.Planning.{laid_from, leaves_none, leaves_past, leaves_more, leaves_end, span_has}
use borrow.Author.Rules.{rules}
use Rattle.curve.proofs.leaves.lay_leaves.Given as goal

abbrev pub invariant-loop-i : goal.invariant-loop-i
invariant-loop-i l =
    Laying l.base (budgets_laid l.base l.width l.days l.marks l.listed l.budgets) l.initial.table (laid_from l.base l.width l.days l.marks l.listed l.budgets l.i) l.table
