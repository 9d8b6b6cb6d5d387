-- `account_number` meets its contract: a place of the marks.
use Rattle.sections.proofs.Marks.{place_below}
use Rattle.ledger.proofs.accounts.account_number.Goals as goal

pub returns : goal.returns
returns c = (c.mark_of.ensures, place_below c.args.account c.mark_of.ensures)
