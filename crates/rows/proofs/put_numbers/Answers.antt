-- `put_numbers` meets its contract: one figure a turn.
use native.Mathlib.Omega.{arith}
use mathlib.Core.Path.{sym, ap, ◌∙◌}
use lib.IntN.{pos}
use lib.ListN.{get_or}
use mir.Syntax.{w64}
use borrow.Author.Rules.{rules}
use Rattle.flat.proofs.Mapped.{mapped_none, mapped_more, mapped_end}
use Rattle.integer.specs.Linear.{back}
use Rattle.money.specs.Words.{bits}
use Rattle.rows.proofs.put_numbers.Goals as goal

pub loop-i-init : goal.loop-i-init
loop-i-init c = mapped_none _ _ _ c.requires

pub loop-i-preserved : goal.loop-i-preserved
loop-i-preserved c =
    let l = c.loop-i in
    let figures = c.args.figures.now in
    mapped_more l.invariant (pos 0) (omega arith) (c.to_bits.ensures ∙ ap bits (back w64 (get_or figures l.i (pos 0)) (search rules)))

pub shape_of-out : goal.shape_of-out
shape_of-out c = c.loop-i.invariant.long ∙ sym c.requires

pub returns : goal.returns
returns c = mapped_end c.loop-i.invariant (omega arith)
