-- `project_changes` meets its contract: one change a turn.
use Rattle.std.specs.Prelude.{None}
use mathlib.Core.Path.{◌∙◌}
use lib.IntN.{pos}
use mir.Syntax.{w64}
use Rattle.integer.specs.Linear.{back}
use Rattle.format.specs.declared.ChangeStatus.TheVariants.{Approved}
use Rattle.format.specs.Book.{BudgetChange}
use Rattle.format.specs.Codec.{stay}
use Rattle.format.specs.Format.{budget_change}
use Rattle.format.specs.Verdict.{content}
use Rattle.model.specs.Budgets.{is_change, changes}
use Rattle.model.proofs.Figures.{saturated_kept}
use Rattle.ledger.proofs.Reading.{reading_none, reading_more, reading_next, reading_end, folded_none, folded_more, folded_end}
use Rattle.budget.proofs.project.project_changes.Goals as goal

pub loop-init : goal.loop-init
loop-init c =
    (reading_none (λ (x : Unit {0}). budget_change c.args.activities) stay _ _ tt c.args.list c.requires.listed, folded_none _ _ _)

pub loop-preserved : goal.loop-preserved
loop-preserved c =
    let read = c.read_budget_change-change.ensures in
    let l = c.loop in
    let more = c.loop-test.true in (
      reading_more l.invariant.0 more read,
      folded_more l.invariant.1 (reading_next l.invariant.0 more read) _ (back w64 c.add_change-sum.result c.add_change-sum.type_inv ∙ c.add_change-sum.ensures),
    )

pub returns : goal.returns
unfolding changes
returns c =
    let l = c.loop in
    let log = (content c.args.book.now).log in
    folded_end l.invariant.1 (reading_end l.invariant.0 c.loop-test.false)
    ∙ saturated_kept (is_change None Approved) (λ (x : BudgetChange). x.amount) (pos 0) log
