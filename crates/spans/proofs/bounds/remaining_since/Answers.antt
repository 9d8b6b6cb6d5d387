-- `remaining_since` meets its contract: by the status.
use borrow.Author.Rules.{rules}
use Rattle.spans.proofs.bounds.remaining_since.Goals as goal

pub returns-in-InProgress : goal.returns-in-InProgress
returns-in-InProgress c =
    rw (c.in-InProgress.is, ← c.number_or.ensures, ← c.max.ensures) c.min.ensures
