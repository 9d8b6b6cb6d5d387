-- `put_row` meets its contract: the number and the rest of the line. Assumes nothing.
use native.Mathlib.Omega.{arith}
use mathlib.Core.List.{[]}
use lib.ListN.{take}
use Rattle.text.specs.Text.{decimal, line}
use Rattle.text.proofs.Spelling.{both}
use borrow.Author.Rules.{rules}
use Rattle.text.proofs.put_row.Goals as goal

pub returns : goal.returns
unfolding line
returns c =
    let start = c.args in
    let first = c.put_decimal-end in
    let rest = c.put_rest in record {
      upper_bound = omega (arith, first.ensures.upper_bound, rest.ensures.upper_bound);
      out_after = both (take start.at start.out.now) (decimal start.first) (line [] start.numbers.now) first.ensures.out_after rest.ensures.out_after;
    }
