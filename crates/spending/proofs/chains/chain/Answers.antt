-- `chain` meets its contract: the loop keeps that the charges from the next one on are chained.
use Rattle.spending.proofs.Chaining.{chaining_start}
use Rattle.spending.proofs.chains.chain.Goals as goal

pub loop-k-init : goal.loop-k-init
loop-k-init c = chaining_start c.args.links.now
