-- `read_expense` meets its contract: each call reads its field.
use Rattle.format.specs.Codec.{◌&◌}
use Rattle.format.specs.Enumeration.{accrual}
use Rattle.format.specs.Format.{expense}
use Rattle.records.specs.Decoded.{expense_of}
use Rattle.records.proofs.Parts.{both_read, iso_read, enum_read, amount_read}
use Rattle.records.proofs.activities.read_expense.Goals as goal

pub returns : goal.returns
unfolding expense_of expense accrual ◌&◌
returns c =
    iso_read _ _ _ _ _ _ _
    (both_read _ _ _ _ c.index-activity.ensures
    (both_read _ _ _ _ (enum_read _ _ _ _ _ _ _ c.field-accrual.ensures c.from.ensures)
    (both_read _ _ _ _ (amount_read c.amount-planned.ensures c.struct_told-1.given.0.1)
    (both_read _ _ _ _ (amount_read c.amount-actual.ensures c.struct_told-2-1.given.0.1)
    (amount_read c.amount-remaining.ensures c.struct_told-3-1.given.0.1)))))
