-- `optional_pair` meets its contract.
use Rattle.rows.specs.Rows.{optional}
use Rattle.ledger.proofs.lines.optional_pair.Goals as goal

pub returns-in-None : goal.returns-in-None
unfolding optional
returns-in-None c = rw c.in-None.is

pub returns-in-Some : goal.returns-in-Some
unfolding optional
returns-in-Some c = rw c.in-Some.is
