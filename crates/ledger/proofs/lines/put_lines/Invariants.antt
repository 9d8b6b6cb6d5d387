-- `put_lines` meets its contract: the project's line, then one line a turn where an activity is marked.
use Rattle.std.specs.Prelude.{None}
use Prim.Native.Nat.{◌-◌}
use native.Mathlib.Omega.{arith}
use mathlib.Core.Path.{◌≡◌, refl, sym, ap, ◌∙◌}
use mathlib.Core.Bool.{not}
use mathlib.Core.List.{map, flat_map}
use mathlib.Core.Logic.{⊎_elim}
use lib.IntN.{ℤ}
use lib.ListN.{length}
use lib.Seq.{sets}
use mir.Syntax.{w64}
use mir.Facts.{to_z-of_z}
use mir.Val.{to_z}
use Rattle.integer.specs.Linear.{seen}
use borrow.Author.Tests.{eq-eqb, ne_eqb}
use Rattle.model.specs.Budgets.{BudgetLine}
use Rattle.flat.proofs.Tables.{flat_length}
use Rattle.flat.proofs.Written.{Writing, writing_none, writing_length, writing_room, writing_more, writing_past, writing_end}
use Rattle.answers.specs.Rows.{budget_row}
use Rattle.ledger.specs.Accounts.{is_marked}
use Rattle.ledger.specs.Lines.{line_in, activity_line, lines_in}
use Rattle.ledger.proofs.Named.{onward, onward_first, onward_taken, onward_passed, onward_end}
use Rattle.ledger.proofs.Lined.{row_long}
use borrow.Author.Rules.{rules}
use Rattle.ledger.proofs.lines.put_lines.Given as goal

abbrev pub invariant-loop-i : goal.invariant-loop-i
invariant-loop-i l =
    Writing 10 budget_row (flat_map budget_row (lines_in l.accounts l.parents l.costs l.marks l.whole)) (map (activity_line l.accounts l.parents l.costs) (onward (is_marked l.marks) (length l.parents) l.i)) l.at l.out
