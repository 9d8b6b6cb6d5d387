-- `floats::bits` meets its contract: only a NaN differs from itself. Assumes nothing.
use Rattle.std.proofs.Common.{◌≡◌, false, not, T, sym, ap, true≢false}
use denote.Floats.{passes}
use lib.Ieee.{Float, nan, inf, fin, to_bits, ne, is_nan}
use lib.Ieee.Compare.{differs_from_itself}
use Rattle.floats.specs.Figures.{bits_of}
use Rattle.floats.proofs.bits.Goals as goal

pub returns-then-x : goal.returns-then-x
unfolding to_bits
returns-then-x c = sym (ap bits_of (differs_from_itself c.args.x (passes _ c.if-x.true)))

equals_itself : (x : Float) → ne x x ≡ false → T (not (is_nan x))
unfolding ne is_nan
equals_itself nan h = absurd (true≢false h)
equals_itself (inf s) h = tt
equals_itself (fin s m e) h = tt

pub float_to_bits-result : goal.float_to_bits-result
float_to_bits-result c = equals_itself c.args.x c.if-x.false
