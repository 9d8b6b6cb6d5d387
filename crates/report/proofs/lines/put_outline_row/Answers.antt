-- `put_outline_row` meets its contract: the level and the index, then the columns. Assumes nothing.
use native.Mathlib.Omega.{arith}
use lib.ListN.{take}
use borrow.Author.Rules.{rules}
use Rattle.report.proofs.Rows.{outline_led}
use Rattle.report.proofs.lines.put_outline_row.Goals as goal

pub returns : goal.returns
returns c =
    let a = c.args in record {
      upper_bound = omega (arith, c.put_pair-head.ensures.upper_bound, c.put_columns.ensures.upper_bound);
      out_after = outline_led a.row.now (take a.at a.out.now) c.put_pair-head.ensures.out_after c.put_columns.ensures.out_after;
    }
