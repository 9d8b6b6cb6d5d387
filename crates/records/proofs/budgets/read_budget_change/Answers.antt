-- `read_budget_change` meets its contract: each call reads its field.
use Rattle.format.specs.Codec.{◌&◌}
use Rattle.format.specs.Enumeration.{change_status}
use Rattle.format.specs.Format.{budget_change}
use Rattle.records.specs.Decoded.{budget_change_of}
use Rattle.records.proofs.Parts.{both_read, iso_read, enum_read, amount_read}
use Rattle.records.proofs.budgets.read_budget_change.Goals as goal

pub returns : goal.returns
unfolding budget_change_of budget_change change_status ◌&◌
returns c =
    iso_read _ _ _ _ _ _ _
    (both_read _ _ _ _ c.optional_index-activity.ensures
    (both_read _ _ _ _ (amount_read c.amount-change.ensures c.struct_told-1.given.0.1)
    (enum_read _ _ _ _ _ _ _ c.field-status.ensures c.from.ensures)))
