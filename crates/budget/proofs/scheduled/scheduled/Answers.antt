-- `scheduled` meets its contract: the costs with those below, and the leaves' sum.
use native.Mathlib.Omega.{arith}
use mathlib.Core.Path.{◌∙◌}
use mir.Syntax.{w64}
use Rattle.integer.specs.Linear.{back}
use Rattle.format.specs.Verdict.{content}
use Rattle.book.proofs.Plan.{activities_most}
use Rattle.activities.proofs.Scheduling.{schedule_most}
use Rattle.tree.proofs.Figured.{rolled_leaves}
use borrow.Author.Rules.{rules}
use Rattle.budget.proofs.scheduled.scheduled.Goals as goal
use Rattle.budget.proofs.scheduled.scheduled.Goals.{After-parent_marks-leaves}

pub parent_marks-leaves-requires : goal.parent_marks-leaves-requires
parent_marks-leaves-requires c = schedule_most c.requires.opened.plan c.requires.schedule_value

pub slice_bounds-leaf_row_sum-end : goal.slice_bounds-leaf_row_sum-end
slice_bounds-leaf_row_sum-end c = search rules

pub leaf_row_sum-requires : goal.leaf_row_sum-requires
leaf_row_sum-requires c =
    (omega arith, omega (arith, c.out-1.given, c.requires.out_len, activities_most c.requires.opened.plan))

pub returns : goal.returns
returns c =
    let book = content c.args.book.now in record {
      each = c.rolled_costs.ensures;
      whole = back w64 c.leaf_row_sum.result c.leaf_row_sum.type_inv
          ∙ c.leaf_row_sum.ensures
          ∙ rolled_leaves book c.rolled_costs.ensures c.parent_marks-leaves.result (c.parent_marks-leaves.ensures book c.requires.schedule_value) 0 (omega arith);
    }
