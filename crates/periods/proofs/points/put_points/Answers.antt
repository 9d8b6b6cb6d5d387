-- `put_points` meets its contract: one period a turn.
use borrow.Author.Rules.{rules}
use native.Mathlib.Omega.{arith}
use Prim.Native.Nat.{ℕ, ◌+◌, ◌*◌, ◌-◌}
use mathlib.Core.Path.{◌≡◌, refl, ap, sym, ◌∙◌}
use mathlib.Core.List.{List}
use lib.IntN.{ℤ}
use lib.ListN.{length, get_or}
use lib.Seq.{sets}
use mir.Syntax.{w64}
use Rattle.integer.specs.Linear.{back}
use Rattle.lists.specs.Lists.{span}
use Rattle.flat.proofs.Cells.{row_inside}
use Rattle.flat.proofs.Written.{Written}
use Rattle.tree.specs.Figures.{figure_of}
use Rattle.flat.proofs.Spans.{rows_none, rows_full, rows_room, rows_more, rows_end}
use Rattle.periods.specs.Points.{point_row, point_at}
use Rattle.periods.proofs.points.put_points.Goals as goal

wide : (finishes : List ℕ) (planned figures : List ℤ) (p : ℕ) → length (point_at finishes planned figures p) ≡ 7
unfolding point_at
wide finishes planned figures p = refl

pub loop-p-init : goal.loop-p-init
loop-p-init c = rows_none 7 _ (wide _ _ _) _ _ c.requires.2

pub put_point-requires : goal.put_point-requires
put_point-requires c =
    let h = c.loop-p-test.true in
    (omega (arith, c.requires.1, row_inside 3 h), rows_room 7 _ (wide _ _ _) _ c.loop-p.invariant h)

pub loop-p-preserved : goal.loop-p-preserved
unfolding point_at
loop-p-preserved c =
    let loop = c.loop-p in
    let a = c.args in
    let t = a.figures.now in
    let p = loop.p in
    rows_more 7 (point_at a.finishes.now a.planned.now t) (wide a.finishes.now a.planned.now t) (length a.finishes.now) loop.invariant c.loop-p-test.true (omega arith)
    (c.put_point.ensures
    ∙ ap (λ (z : ℤ). sets loop.out (p * 7) (point_row p (get_or a.finishes.now p 0) z (figure_of t (p * 3)) (figure_of t (p * 3 + 1)) (figure_of t (p * 3 + 2)))) (back w64 (figure_of a.planned.now p) c.value-1.given))

pub shape_of-out : goal.shape_of-out
shape_of-out c = rows_full 7 _ (wide _ _ _) _ c.loop-p.invariant ∙ sym c.requires.2

pub returns : goal.returns
returns c = rows_end 7 _ (wide _ _ _) _ c.loop-p.invariant c.loop-p-test.false
