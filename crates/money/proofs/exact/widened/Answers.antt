-- `widened` meets its contract: the high word is the sign's, 0 or all ones. Assumes nothing.
use Rattle.std.proofs.Common.{pos, negsuc, sym, ap, ◌∙◌, zero-add, arith}
use Rattle.integer.specs.Linear.{linear, sum}
use Rattle.money.proofs.Bits.{low, high}
use Rattle.money.proofs.exact.widened.Goals as goal

pub returns-then-bits-lt9223372036854775808 : goal.returns-then-bits-lt9223372036854775808
returns-then-bits-lt9223372036854775808 c = let n = c.args.bits in ap pos (zero-add n) ∙ sym (low n (omega arith))

pub returns-else-bits-lt9223372036854775808 : goal.returns-else-bits-lt9223372036854775808
returns-else-bits-lt9223372036854775808 c =
    let n = c.args.bits in
    omega (linear, sum (negsuc 0xffff_ffff_ffff_ffff) (pos n), c.ranges.bits) ∙ sym (high n (omega arith))
