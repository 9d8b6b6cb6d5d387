-- `read_baseline_line` meets its contract: each call reads its field.
use Rattle.format.specs.Codec.{◌&◌}
use Rattle.format.specs.Format.{baseline_line}
use Rattle.records.specs.Decoded.{baseline_line_of}
use Rattle.records.proofs.Parts.{both_read, iso_read, amount_read}
use Rattle.records.proofs.activities.read_baseline_line.Goals as goal

pub returns : goal.returns
unfolding baseline_line_of baseline_line ◌&◌
returns c =
    iso_read _ _ _ _ _ _ _
    (both_read _ _ _ _ c.index-activity.ensures
    (both_read _ _ _ _ c.date-start.ensures
    (both_read _ _ _ _ c.date-finish.ensures
    (both_read _ _ _ _ c.minutes-minutes.ensures
    (amount_read c.amount-cost.ensures c.struct_told-1.given.0.1)))))
