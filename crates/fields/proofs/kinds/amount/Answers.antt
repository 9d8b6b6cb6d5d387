-- `amount` meets its contract: the number, as a signed one.
use Rattle.format.specs.Reader.{here, mapped}
use Rattle.format.specs.Signed.{signed}
use Rattle.format.specs.Field.{S}
use Rattle.format.specs.Codec.{field}
use Rattle.fields.proofs.Signed.{kept}
use Rattle.fields.proofs.kinds.amount.Goals as goal

pub returns : goal.returns
unfolding field S here signed mapped
returns c = rw (kept c.signed_of.result c.signed_of.type_inv, c.signed_of.ensures, ← c.any_number-n.ensures)
