-- `sums` meets its contract: each figure of the leaves added up.
use native.Mathlib.Omega.{arith}
use mathlib.Core.Path.{ap, ◌∙◌}
use mathlib.Core.List.{List}
use lib.IntN.{ℤ}
use mir.Syntax.{w64}
use borrow.Author.Rules.{rules}
use Rattle.integer.specs.Linear.{back}
use Rattle.tree.specs.Figures.{column, unmarked_sum}
use Rattle.tree.proofs.Figured.{values_leaves}
use Rattle.value.proofs.sums.Goals as goal

pub returns : goal.returns
returns c =
    λ book date leaves own.
    let a = c.args in
    let marks = a.marks.now in
    λ k.
    record {
      budget =
          (back w64 c.leaf_row_sum.result c.leaf_row_sum.type_inv
          ∙ c.leaf_row_sum.ensures
          ∙ ap (λ (t : List ℤ). unmarked_sum marks (column 5 0 t)) own
          ∙ values_leaves book date marks leaves 0 (omega arith))
          k;
      planned =
          (back w64 c.leaf_row_sum-2.result c.leaf_row_sum-2.type_inv
          ∙ c.leaf_row_sum-2.ensures
          ∙ ap (λ (t : List ℤ). unmarked_sum marks (column 5 1 t)) own
          ∙ values_leaves book date marks leaves 1 (omega arith))
          k;
      earned =
          (back w64 c.leaf_row_sum-3.result c.leaf_row_sum-3.type_inv
          ∙ c.leaf_row_sum-3.ensures
          ∙ ap (λ (t : List ℤ). unmarked_sum marks (column 5 2 t)) own
          ∙ values_leaves book date marks leaves 2 (omega arith))
          k;
      actual =
          (back w64 c.leaf_row_sum-4.result c.leaf_row_sum-4.type_inv
          ∙ c.leaf_row_sum-4.ensures
          ∙ ap (λ (t : List ℤ). unmarked_sum marks (column 5 3 t)) own
          ∙ values_leaves book date marks leaves 3 (omega arith))
          k;
      remaining =
          (back w64 c.leaf_row_sum-5.result c.leaf_row_sum-5.type_inv
          ∙ c.leaf_row_sum-5.ensures
          ∙ ap (λ (t : List ℤ). unmarked_sum marks (column 5 4 t)) own
          ∙ values_leaves book date marks leaves 4 (omega arith))
          k;
    }
