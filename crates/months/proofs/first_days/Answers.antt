-- `first_days` meets its contract: the code's table is that of the definition.
use mathlib.Core.Path.{refl}
use Rattle.months.specs.Table.{first_days}
use Rattle.months.proofs.first_days.Goals as goal

pub returns : goal.returns
unfolding first_days
returns c = refl
