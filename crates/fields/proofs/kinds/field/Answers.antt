-- `field` meets its contract: its place is its own.
use Rattle.format.specs.Reader.{here}
use Rattle.format.specs.Field.{range}
use Rattle.format.specs.Codec.{field}
use Rattle.fields.proofs.kinds.field.Goals as goal

pub returns : goal.returns
unfolding field range here
returns c = rw (c.ranged.ensures, c.place.ensures)
