-- `read_activity` meets its contract: each call reads its field.
use Rattle.format.specs.Codec.{◌&◌}
use Rattle.format.specs.Enumeration.{status}
use Rattle.format.specs.Format.{activity}
use Rattle.records.specs.Decoded.{activity_of}
use Rattle.records.proofs.Parts.{both_read, iso_read, enum_read}
use Rattle.records.proofs.activities.read_activity.Goals as goal

pub returns : goal.returns
unfolding activity_of activity status ◌&◌
returns c =
    iso_read _ _ _ _ _ _ _
    (both_read _ _ _ _ c.optional_index-parent.ensures
    (both_read _ _ _ _ c.optional_index-calendar.ensures
    (both_read _ _ _ _ (enum_read _ _ _ _ _ _ _ c.field-status.ensures c.from.ensures)
    (both_read _ _ _ _ c.date-start.ensures
    (both_read _ _ _ _ c.date-finish.ensures
    (both_read _ _ _ _ c.optional_date-started.ensures
    (both_read _ _ _ _ c.optional_date-finished.ensures
    (both_read _ _ _ _ c.minutes-working.ensures
    (both_read _ _ _ _ c.minutes-remaining.ensures
    c.optional_amount-percent.ensures)))))))))
