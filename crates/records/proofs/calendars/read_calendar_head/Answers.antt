-- `read_calendar_head` meets its contract: each call reads its field.
use Rattle.format.specs.Codec.{◌&◌}
use Rattle.format.specs.Enumeration.{region}
use Rattle.records.proofs.Parts.{both_read, enum_read}
use Rattle.records.proofs.calendars.read_calendar_head.Goals as goal

pub returns : goal.returns
unfolding region ◌&◌
returns c =
    both_read _ _ _ _ c.field-week.ensures
    (enum_read _ _ _ _ _ _ _ c.field-region.ensures c.from.ensures)
