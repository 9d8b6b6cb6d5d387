-- `put_last` meets its contract: the column and the line's end. Assumes nothing.
use native.Mathlib.Omega.{arith}
use mathlib.Core.List.{[], ◌∷◌}
use lib.ListN.{take}
use borrow.Author.Rules.{rules}
use Rattle.text.specs.Text.{marked}
use Rattle.text.proofs.Spelling.{both}
use Rattle.text.proofs.put_last.Goals as goal

pub returns : goal.returns
returns c =
    let s = c.args in record {
      upper_bound = omega (arith, c.put_marked-end.ensures.upper_bound, c.put.ensures.value);
      out_after = both (take s.at s.out.now) (32 ∷ marked s.mark s.bits) (10 ∷ []) c.put_marked-end.ensures.out_after c.put.ensures.out_after;
    }
