-- `put_signed` meets its contract: below the sign bit the number itself, else a sign and how far it is behind 2^64. Assumes nothing.
use Prim.Native.Nat.{◌+◌, ◌-◌}
use native.Mathlib.Omega.{arith}
use mathlib.Core.Path.{sym}
use mathlib.Core.List.{[], ◌∷◌}
use Rattle.text.specs.Text.{decimal}
use lib.ListN.{take}
use Rattle.text.proofs.Spelling.{signed_low, signed_high, same, both}
use borrow.Author.Rules.{rules}
use Rattle.text.proofs.put_signed.Goals as goal

pub returns-then-bits-lt9223372036854775808 : goal.returns-then-bits-lt9223372036854775808
returns-then-bits-lt9223372036854775808 c =
    let start = c.args in
    record {
      upper_bound = search rules;
      out_after = same (take start.at start.out.now) c.put_decimal.ensures.out_after (sym (signed_low _ c.if-bits-lt9223372036854775808.true));
    }

pub returns : goal.returns
returns c =
    let start = c.args in
    let text = take start.at start.out.now in record {
      upper_bound = omega (arith, c.put_decimal-2.ensures.upper_bound, c.put-behind.ensures.value);
      out_after = same text
          (both text (45 ∷ []) (decimal (18446744073709551615 - start.bits + 1)) c.put-behind.ensures.out_after c.put_decimal-2.ensures.out_after)
          (sym (signed_high start.bits c.if-bits-lt9223372036854775808.false (omega (arith, c.ranges.bits))));
    }
