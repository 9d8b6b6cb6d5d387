-- `gregorian::march` meets its contract.
-- Assumes nothing.
use Rattle.gregorian.proofs.MarchYear.{march_number}
use Rattle.gregorian.proofs.march.Goals as goal

pub returns : goal.returns
returns c = march_number c.args.y _ c.args.day c.requires.1.1.0
