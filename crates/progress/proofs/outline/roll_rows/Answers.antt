-- `roll_rows` meets its contract: the parents and the rolled figures, then the rows of their outline.
use native.Mathlib.Omega.{arith}
use mathlib.Core.Path.{ap, ◌∙◌}
use borrow.Author.Rules.{rules}
use Rattle.format.specs.Verdict.{content}
use Rattle.format.proofs.Theorems.{content_in_range}
use Rattle.book.proofs.Plan.{activities_count, activities_most}
use Rattle.tree.specs.Figures.{parents_of}
use Rattle.activities.proofs.Leaves.{parents_are}
use Rattle.progress.proofs.outline.roll_rows.Goals as goal

pub list_rows-requires : goal.list_rows-requires
list_rows-requires c =
    let named = c.parents-1.given in
    (omega (arith, named, c.requires.parents_len.0, activities_most c.requires.opened.plan), omega (arith, c.rolled-1.given, c.requires.parents_len.1, named, c.requires.parents_len.0))

pub returns : goal.returns
returns c =
    let p = c.requires.opened.plan in
    let b = content c.args.book.now in
    let tree = parents_are b (omega (arith, activities_count p, activities_most p)) (content_in_range c.args.book.now p.accepted) in
    c.list_rows.ensures b c.args.date (ap parents_of c.roll_tree.ensures.parents ∙ tree) c.roll_tree.ensures.out
