-- `put_earned_line` meets its contract: the word and the columns. Assumes nothing.
use native.Mathlib.Omega.{arith}
use lib.ListN.{take}
use borrow.Author.Rules.{rules}
use Rattle.report.proofs.Rows.{led}
use Rattle.report.proofs.lines.put_earned_line.Goals as goal

pub returns : goal.returns
returns c =
    let a = c.args in record {
      upper_bound = omega (arith, c.put-head.ensures.value, c.put_columns.ensures.upper_bound);
      out_after = led a.word.now a.row.now (take a.at a.out.now) c.put-head.ensures.out_after c.put_columns.ensures.out_after;
    }
