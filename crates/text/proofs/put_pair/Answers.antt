-- `put_pair` meets its contract: a number, a blank, a number. Assumes nothing.
use native.Mathlib.Omega.{arith}
use lib.ListN.{take}
use borrow.Author.Rules.{rules}
use Rattle.text.proofs.Spelling.{paired}
use Rattle.text.proofs.put_pair.Goals as goal

pub returns : goal.returns
returns c =
    let a = c.args in record {
      upper_bound = omega (arith, c.put_decimal-head.ensures.upper_bound, c.put-blank.ensures.value, c.put_decimal.ensures.upper_bound);
      out_after = paired a.first a.second (take a.at a.out.now) c.put_decimal-head.ensures.out_after c.put-blank.ensures.out_after c.put_decimal.ensures.out_after;
    }
