-- `read_price` meets its contract: each call reads its field.
use Rattle.format.specs.Codec.{◌&◌}
use Rattle.format.specs.Format.{price}
use Rattle.records.specs.Decoded.{price_of}
use Rattle.records.proofs.Parts.{both_read, iso_read, amount_read}
use Rattle.records.proofs.resources.read_price.Goals as goal

pub returns : goal.returns
unfolding price_of price ◌&◌
returns c =
    iso_read _ _ _ _ _ _ _
    (both_read _ _ _ _ c.optional_date-from.ensures
    (amount_read c.amount-price.ensures c.struct_told-1.given.0.1))
