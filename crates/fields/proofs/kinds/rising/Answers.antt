-- `rising` meets its contract: the date, then its test.
use Rattle.format.specs.Reader.{passing}
use Rattle.format.specs.Codec.{test}
use Rattle.format.specs.Format.{rising}
use Rattle.fields.proofs.kinds.rising.Goals as goal

pub returns : goal.returns
unfolding rising test passing
returns c = rw (c.above.ensures, c.place.ensures, ← c.date.ensures)
