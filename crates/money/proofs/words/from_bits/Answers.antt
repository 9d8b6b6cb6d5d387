-- `from_bits` meets its contract: it is std's cast. Assumes nothing.
use Rattle.std.proofs.Common.{◌∙◌, w64, to_z-of_z}
use Rattle.money.proofs.Bits.{cast_of_bits}
use Rattle.money.proofs.words.from_bits.Goals as goal

pub returns : goal.returns
returns c = to_z-of_z {w = w64} (record { sfits = c.cast_signed.type_inv }) ∙ c.cast_signed.ensures ∙ cast_of_bits c.args.u
