-- `narrowed` meets its contract: the low word alone says a number of 64 bits. Assumes nothing.
use Rattle.std.proofs.Common.{◌∙◌, w64, rules}
use Rattle.integer.specs.Linear.{back}
use Rattle.money.proofs.ExactParts.{same_number}
use Rattle.money.proofs.exact.narrowed.Goals as goal

pub returns : goal.returns
returns c = back w64 c.from_bits.result c.from_bits.type_inv ∙ c.from_bits.ensures ∙ same_number c.args.a (search rules) c.requires
