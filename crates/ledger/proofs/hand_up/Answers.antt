-- `hand_up` meets its contract: the marks, then the distribution.
use Rattle.ledger.proofs.Handed.{all_done}
use Rattle.ledger.proofs.hand_up.Goals as goal

pub returns : goal.returns
returns c = λ book w l b. all_done c.args.leaves.now w l b c.mark_parents.ensures c.distribute.ensures
