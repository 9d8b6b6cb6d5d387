-- `put_lines` meets its contract: one row a turn.
use Prim.Native.Nat.{◌*◌, ◌-◌, ◌≤◌}
use native.Mathlib.Omega.{arith}
use mathlib.Core.Path.{◌≡◌, sym, ◌∙◌}
use lib.ListN.{length}
use Rattle.lists.specs.Lists.{span}
use Rattle.flat.proofs.Written.{Written}
use Rattle.flat.proofs.Spans.{rows_none, rows_more, rows_end}
use Rattle.answers.specs.Rows.{outline_width}
use Rattle.value.specs.Figures.{outlined_in}
use Rattle.value.proofs.Reading.{outlined_wide, outlined_set}
use Rattle.value.proofs.lines.put_lines.Goals as goal

pub loop-k-init : goal.loop-k-init
loop-k-init c =
    (c.requires.out_len, rows_none outline_width _ (outlined_wide c.args.table.now c.args.lines.now) _ _ c.requires.out_len)

pub earned_at-e-requires : goal.earned_at-e-requires
earned_at-e-requires c =
    c.requires.has_figures.figured c.loop-k.k c.loop-k-test.true

pub loop-k-preserved : goal.loop-k-preserved
loop-k-preserved c =
    let a = c.args in (
      c.out-1.given ∙ c.loop-k.invariant.0,
      rows_more outline_width _ (outlined_wide a.table.now a.lines.now) _ c.loop-k.invariant.1 c.loop-k-test.true (omega arith)
          (outlined_set a.table.now a.lines.now c.loop-k.out c.loop-k.k c.earned_at-e.ensures c.put_line.ensures),
    )

pub returns : goal.returns
returns c =
    let a = c.args in
    rows_end outline_width _ (outlined_wide a.table.now a.lines.now) _ c.loop-k.invariant.1 c.loop-k-test.false

pub overflow_mul-index : goal.overflow_mul-index
overflow_mul-index c = omega (arith, c.requires.has_figures.most)

pub overflow_add-index : goal.overflow_add-index
overflow_add-index c = omega (arith, c.requires.has_figures.most)

pub offset_bounds-lines-k : goal.offset_bounds-lines-k
offset_bounds-lines-k c = omega (arith, c.requires.has_figures.most)

pub bounds-lines-k : goal.bounds-lines-k
bounds-lines-k c = omega (arith, c.requires.has_figures.most)

pub overflow_mul-k : goal.overflow_mul-k
overflow_mul-k c = omega (arith, c.requires.has_figures.most)

pub offset_bounds-lines-k-in-loop-k : goal.offset_bounds-lines-k-in-loop-k
offset_bounds-lines-k-in-loop-k c = omega (arith, c.requires.has_figures.most)

pub bounds-lines-k-in-loop-k : goal.bounds-lines-k-in-loop-k
bounds-lines-k-in-loop-k c = omega (arith, c.requires.has_figures.most)

pub overflow_mul-k-in-loop-k : goal.overflow_mul-k-in-loop-k
overflow_mul-k-in-loop-k c = omega arith

pub put_line-requires : goal.put_line-requires
put_line-requires c = omega arith

pub shape_of-out : goal.shape_of-out
shape_of-out c = c.loop-k.invariant.0 ∙ sym c.requires.out_len
