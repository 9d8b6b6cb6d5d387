-- `put_point` meets its contract: seven numbers, as one row.
use borrow.Author.Rules.{rules}
use Prim.Native.Nat.{◌+◌, ◌*◌}
use mathlib.Core.Path.{ap, ap₂, ◌∙◌}
use mir.Syntax.{w64}
use mir.Facts.{to_z-of_z}
use Rattle.integer.specs.Linear.{back}
use Rattle.money.specs.Words.{bits}
use Rattle.tree.specs.Figures.{figure_of}
use Rattle.periods.specs.Points.{if_stored}
use Rattle.periods.proofs.points.put_point.Goals as goal

pub returns : goal.returns
returns c =
    let t = c.args.figures.now in
    let p = c.args.p in
    let stored = back w64 (figure_of t (p * 3)) c.stored-1.given in
    let earned = back w64 (figure_of t (p * 3 + 1)) c.earned-1.given in
    let actual = back w64 (figure_of t (p * 3 + 2)) c.actual-1.given in
    c.put_row.ensures
    ∙ rw (
      c.to_bits-value.ensures ∙ ap bits (to_z-of_z c.ranges.planned),
      c.to_bits-mark.ensures ∙ ap bits stored,
      c.if_stored-worth.ensures ∙ ap₂ if_stored stored earned,
      c.if_stored-spent.ensures ∙ ap₂ if_stored stored actual,
    )
