-- `put_line` meets its contract: the word and the rest of the line. Assumes nothing.
use native.Mathlib.Omega.{arith}
use mathlib.Core.List.{[]}
use lib.ListN.{take}
use Rattle.text.specs.Text.{line}
use Rattle.text.proofs.Spelling.{both}
use borrow.Author.Rules.{rules}
use Rattle.text.proofs.put_line.Goals as goal

pub returns : goal.returns
unfolding line
returns c =
    let start = c.args in
    let first = c.put-end in
    let rest = c.put_rest in record {
      upper_bound = omega (arith, first.ensures.value, rest.ensures.upper_bound);
      out_after = both (take start.at start.out.now) start.word.now (line [] start.numbers.now) first.ensures.out_after rest.ensures.out_after;
    }
