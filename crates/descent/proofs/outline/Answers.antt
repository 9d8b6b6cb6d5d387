-- `outline` meets its contract: the columns are the tree's, and the lines below the place of the tops are the outline's.
use mathlib.Core.Path.{◌∙◌}
use Rattle.descent.proofs.Whole.{ready_first, stands}
use Rattle.descent.proofs.outline.Goals as goal

pub down-requires : goal.down-requires
down-requires c =
    ready_first c.args.parents.now _ _ c.link.ensures _ (c.link.auto.first ∙ c.requires.0) (c.link.auto.next ∙ c.requires.1) c.requires.2

pub returns : goal.returns
returns c =
    stands c.args.parents.now _ _ c.link.ensures c.args.lines.now _ _ c.requires.2 c.down.ensures.count c.down.ensures.lines
