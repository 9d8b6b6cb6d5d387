-- `next_budget` meets its contract: what its name's mark says is whether it is new.
use mathlib.Core.Path.{ap, ◌∙◌}
use Rattle.sections.specs.Sections.{mark_of}
use Rattle.tree.specs.Figures.{is_unmarked}
use Rattle.ledger.proofs.budgets.next_budget.Goals as goal

pub returns : goal.returns
returns c =
    λ before e.
    let marks = c.args.marks.now in
    c.read_budget.ensures before (ap (is_unmarked marks) (c.account_number-k.ensures.0 ∙ ap (λ v. mark_of v.0) c.optional_index-named.ensures) ∙ e)
