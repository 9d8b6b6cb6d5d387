-- `read_period_record` meets its contract: each call reads its field.
use Rattle.format.specs.Codec.{◌&◌}
use Rattle.format.specs.Format.{period_record}
use Rattle.records.specs.Decoded.{period_record_of}
use Rattle.records.proofs.Parts.{both_read, iso_read, amount_read}
use Rattle.records.proofs.periods.read_period_record.Goals as goal

pub returns : goal.returns
unfolding period_record_of period_record ◌&◌
returns c =
    iso_read _ _ _ _ _ _ _
    (both_read _ _ _ _ c.index-period.ensures
    (both_read _ _ _ _ c.index-activity.ensures
    (both_read _ _ _ _ (amount_read c.amount-earned.ensures c.struct_told-1.given.0.1)
    (both_read _ _ _ _ (amount_read c.amount-labor.ensures c.struct_told-2-1.given.0.1)
    (both_read _ _ _ _ (amount_read c.amount-nonlabor.ensures c.struct_told-3-1.given.0.1)
    (both_read _ _ _ _ (amount_read c.amount-material.ensures c.struct_told-4-1.given.0.1)
    (amount_read c.amount-expense.ensures c.struct_told-5-1.given.0.1)))))))
