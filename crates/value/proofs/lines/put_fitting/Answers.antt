-- `put_fitting` meets its contract: 10, or the rows at the front.
use native.Mathlib.Omega.{arith}
use mathlib.Core.Path.{sym, ◌∙◌}
use lib.Seq.{length-take-le}
use borrow.Author.Rules.{rules}
use Rattle.answers.specs.Rows.{outline_rows}
use Rattle.answers.proofs.Sized.{no_room, in_front}
use Rattle.answers.proofs.SizedEarned.{outline_sized}
use Rattle.value.proofs.Listed.{rows_listed}
use Rattle.value.proofs.lines.put_fitting.Goals as goal

pub returns-then-out-n : goal.returns-then-out-n
returns-then-out-n c =
    λ book date lines e.
    let a = c.args in
    no_room (outline_rows date book) a.out.now (outline_sized date book a.count (sym lines.counted)) (omega arith)

pub returns : goal.returns
returns c =
    λ book date lines e.
    let a = c.args in
    in_front (outline_rows date book) a.out.now (outline_sized date book a.count (sym lines.counted)) (omega arith) _ (c.put_lines.ensures ∙ rows_listed book date lines e)

pub slice_bounds-put_lines-end-2 : goal.slice_bounds-put_lines-end-2
slice_bounds-put_lines-end-2 c = sym (length-take-le _ _ c.if-out-n.false)

pub put_lines-requires : goal.put_lines-requires
put_lines-requires c = record { has_figures = c.requires; out_len = length-take-le _ _ c.if-out-n.false }
