-- `put_outline_rows` meets its contract. In the loop: the lines so far with those that are left are all. Assumes nothing.
use native.Mathlib.Omega.{arith}
use mathlib.Core.Path.{refl, sym, ◌∙◌}
use lib.ListN.{take}
use borrow.Author.Rules.{rules}
use Rattle.report.specs.Lines.{outline_lines}
use Rattle.report.proofs.Rows.{lines_all, lines_next, lines_end, outline_put}
use Rattle.report.proofs.lines.put_outline_rows.Goals as goal

pub loop-i-init : goal.loop-i-init
unfolding outline_lines
loop-i-init c = (refl, omega arith, omega arith, lines_all _ _)

pub loop-i-preserved : goal.loop-i-preserved
loop-i-preserved c =
    let loop = c.loop-i in
    let put = c.put_outline_row-end in (
      search rules,
      search rules,
      search rules,
      lines_next _ _ loop.i (search rules) (take loop.end loop.out) (outline_put _ loop.i (take loop.end loop.out) put.ensures.out_after) ∙ loop.invariant.3,
    )

pub returns : goal.returns
returns c =
    let loop = c.loop-i in
    record {
      upper_bound = search rules;
      out_after = sym (lines_end _ _ loop.i c.loop-i-test.false (take loop.end loop.out)) ∙ loop.invariant.3;
    }
