-- `to_bits` meets its contract: it is std's cast. Assumes nothing.
use Rattle.std.proofs.Common.{◌∙◌, ap, w64, of_z, to_z-of_z}
use Rattle.money.proofs.Bits.{cast_bits}
use Rattle.money.proofs.words.to_bits.Goals as goal

pub returns : goal.returns
returns c = c.cast_unsigned.ensures ∙ ap (of_z w64) (to_z-of_z c.ranges.x) ∙ cast_bits c.args.x
