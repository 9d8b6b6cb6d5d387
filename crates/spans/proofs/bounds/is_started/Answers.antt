-- `is_started` meets its contract: by the status. Found by itself too; here an edit of the first arm is refused for its answer.
use Rattle.spans.proofs.bounds.is_started.Goals as goal

-- what is not started
pub returns-in-NotStarted : goal.returns-in-NotStarted
returns-in-NotStarted c = rw c.in-NotStarted.is
