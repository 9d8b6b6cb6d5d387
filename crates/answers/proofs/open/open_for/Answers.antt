-- `open_for` meets its contract: one condition behind the other.
use Rattle.answers.proofs.open.open_for.Goals as goal

pub returns : goal.returns
returns c = c.ask_date.ensures _ _ (c.ask_activity.ensures _ _ c.open.ensures)
