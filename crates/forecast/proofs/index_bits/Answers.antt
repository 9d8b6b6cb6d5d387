-- `index_bits` meets its contract: by whether there is an index.
use mathlib.Core.Path.{refl}
use borrow.Author.Rules.{rules}
use Rattle.answers.specs.Rows.{index_bits}
use Rattle.forecast.proofs.index_bits.Goals as goal

pub returns-then-present : goal.returns-then-present
unfolding index_bits
returns-then-present c = rw (c.if-present.true, c.bits.ensures) refl

pub returns : goal.returns
unfolding index_bits
returns c = rw c.if-present.false refl
