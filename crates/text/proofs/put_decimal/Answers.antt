-- `put_decimal` meets its contract. Assumes nothing.
use native.Mathlib.Omega.{arith}
use Prim.Native.Nat.{◌<◌}
use mathlib.Core.Path.{◌∙◌}
use lib.ListN.{take}
use Rattle.text.proofs.Spelling.{few, decimal_is, same}
use borrow.Author.Rules.{rules}
use Rattle.text.proofs.put_decimal.Goals as goal

pub put-requires : goal.put-requires
put-requires c =
    let d = c.decimal-count in
    omega (arith, d.ensures.in_bounds, few _ d.result (omega (arith, c.ranges.n)) d.ensures.len)

pub returns : goal.returns
returns c =
    let d = c.decimal-count in
    let n = c.args.n in
    let fits : n < 18446744073709551616 = omega (arith, c.ranges.n) in record {
      upper_bound = omega (arith, c.put.ensures.value, d.ensures.in_bounds, few n d.result fits d.ensures.len);
      out_after = same (take c.args.at c.args.out.now) c.put.ensures.out_after (d.ensures.digits ∙ decimal_is n d.result fits d.ensures.len);
    }
