-- `read_budget_head` meets its contract: the name and its test, then the amount.
use Rattle.format.specs.Codec.{◌&◌}
use Rattle.records.proofs.Parts.{both_read, amount_read, test_read}
use Rattle.records.proofs.budgets.read_budget_head.Goals as goal

pub returns : goal.returns
unfolding ◌&◌
returns c =
    both_read _ _ _ _
    (test_read _ _ _ _ _ _ c.optional_index-named.ensures (rw c.place.ensures at c.named_once-activity.ensures))
    (amount_read c.amount-original.ensures c.struct_told-1.given.0.1)
