-- `put_outline` meets its contract: the lines of the outline, then their rows.
use mathlib.Core.Path.{◌∙◌}
use borrow.Author.Rules.{rules}
use Rattle.value.proofs.Listed.{has_figures, same_outline}
use Rattle.value.proofs.lines.put_outline.Goals as goal

pub put_fitting-requires : goal.put_fitting-requires
put_fitting-requires c =
    has_figures c.args.parents.now c.outline-count.ensures c.requires.figured (c.lines-1.given ∙ c.requires.listed)

pub returns : goal.returns
returns c =
    λ book date same e.
    c.put_fitting.ensures book date (same_outline same c.outline-count.ensures) e

pub outline-count-requires : goal.outline-count-requires
outline-count-requires c = let p = c.requires in (p.firsts, p.nexts, p.listed)
