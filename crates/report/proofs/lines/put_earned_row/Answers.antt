-- `put_earned_row` meets its contract: the index and the columns. Assumes nothing.
use native.Mathlib.Omega.{arith}
use lib.ListN.{take}
use borrow.Author.Rules.{rules}
use Rattle.text.specs.Text.{decimal}
use Rattle.report.proofs.Rows.{led}
use Rattle.report.proofs.lines.put_earned_row.Goals as goal

pub returns : goal.returns
returns c =
    let a = c.args in record {
      upper_bound = omega (arith, c.put_decimal-head.ensures.upper_bound, c.put_columns.ensures.upper_bound);
      out_after = led (decimal a.index) a.row.now (take a.at a.out.now) c.put_decimal-head.ensures.out_after c.put_columns.ensures.out_after;
    }
