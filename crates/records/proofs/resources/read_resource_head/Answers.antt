-- `read_resource_head` meets its contract: its number, as the enum.
use Rattle.format.specs.Enumeration.{resource_kind}
use Rattle.records.proofs.Parts.{enum_read}
use Rattle.records.proofs.resources.read_resource_head.Goals as goal

pub returns : goal.returns
unfolding resource_kind
returns c = enum_read _ _ _ _ _ _ _ c.field-kind.ensures c.from.ensures
