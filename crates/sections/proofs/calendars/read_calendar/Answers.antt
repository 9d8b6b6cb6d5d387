-- `read_calendar` meets its contract: what leads it, then its three lists.
use Rattle.format.specs.Codec.{◌&◌}
use Rattle.format.specs.Format.{calendar, days, exceptions}
use Rattle.records.proofs.Parts.{both_read, iso_read, head_read}
use Rattle.sections.specs.Sections.{calendar_of}
use Rattle.sections.proofs.Lists.{list_read}
use Rattle.sections.proofs.calendars.read_calendar.Goals as goal

pub returns : goal.returns
unfolding calendar_of calendar days exceptions ◌&◌
returns c =
    iso_read _ _ _ _ _ _ _
    (head_read _ _ _ _ _ c.read_calendar_head-head.ensures
    (both_read _ _ _ _ (list_read c.read_days-holidays.ensures)
    (both_read _ _ _ _ (list_read c.read_days-extra.ensures) (list_read c.read_exceptions-exceptions.ensures))))
