-- `put_project` meets its contract: the first line.
use Rattle.std.specs.Prelude.{None}
use mathlib.Core.Path.{ap, ◌∙◌}
use lib.Seq.{sets}
use mir.Facts.{to_z-of_z}
use Rattle.model.specs.Budgets.{BudgetLine}
use Rattle.answers.specs.Rows.{budget_row}
use Rattle.ledger.specs.Lines.{line_in}
use borrow.Author.Rules.{rules}
use Rattle.ledger.proofs.lines.put_project.Goals as goal

pub returns : goal.returns
returns c =
    c.put_line.ensures
    ∙ ap (λ (l : BudgetLine). sets c.args.out.now 0 (budget_row l)) (c.line_at-line.ensures ∙ ap (line_in c.args.accounts.now None 0) (to_z-of_z c.ranges.whole))
