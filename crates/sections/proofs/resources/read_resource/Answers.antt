-- `read_resource` meets its contract: its kind, then its prices.
use Rattle.format.specs.Codec.{◌&◌, up_to}
use Rattle.format.specs.Format.{resource}
use Rattle.records.proofs.Parts.{both_read, iso_read}
use Rattle.sections.specs.Sections.{resource_of}
use Rattle.sections.proofs.Lists.{list_read}
use Rattle.sections.proofs.resources.read_resource.Goals as goal

pub returns : goal.returns
unfolding resource_of resource up_to ◌&◌
returns c =
    iso_read _ _ _ _ _ _ _
    (both_read _ _ _ _ c.read_resource_head-head.ensures (list_read c.read_prices-prices.ensures))
