-- `put_rest` meets its contract: the figures and the line's end. Assumes nothing.
use native.Mathlib.Omega.{arith}
use mathlib.Core.List.{[], ◌∷◌}
use lib.ListN.{take}
use Rattle.text.specs.Text.{figures, line}
use Rattle.text.proofs.Spelling.{both}
use borrow.Author.Rules.{rules}
use Rattle.text.proofs.put_rest.Goals as goal

pub returns : goal.returns
unfolding line
returns c =
    let start = c.args in
    let first = c.put_figures-end in
    let rest = c.put in record {
      upper_bound = omega (arith, first.ensures.upper_bound, rest.ensures.value);
      out_after = both (take start.at start.out.now) (figures start.numbers.now) (10 ∷ []) first.ensures.out_after rest.ensures.out_after;
    }
