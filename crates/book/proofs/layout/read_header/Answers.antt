-- `read_header` meets its contract: field after field.
use Rattle.format.specs.Codec.{◌&◌}
use Rattle.format.specs.Enumeration.{forecast}
use Rattle.records.proofs.Parts.{both_read, enum_read}
use Rattle.book.proofs.layout.read_header.Goals as goal

pub returns : goal.returns
unfolding ◌&◌ forecast
returns c =
    both_read _ _ _ _ c.field-edition.ensures
    (both_read _ _ _ _ c.optional_date-date.ensures
    (both_read _ _ _ _ c.read_technique-technique.ensures (enum_read _ _ _ _ _ _ _ c.field-forecast.ensures c.from.ensures)))
