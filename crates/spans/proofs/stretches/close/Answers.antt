-- `close` meets its contract: by the test.
use borrow.Author.Tests.{lt-ltb, le-ltb}
use Rattle.spans.specs.Stretches.{closed}
use Rattle.spans.proofs.stretches.close.Goals as goal

pub returns-then-known : goal.returns-then-known
unfolding closed
returns-then-known c = let known = c.args.known in rw (lt-ltb known.to known.from c.if-known.true)

pub returns : goal.returns
unfolding closed
returns c = let known = c.args.known in rw (le-ltb known.to known.from c.if-known.false)
