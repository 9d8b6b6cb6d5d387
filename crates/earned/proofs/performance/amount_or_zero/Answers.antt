-- `amount_or_zero` meets its contract: by what is given.
use mathlib.Core.Path.{refl}
use mir.Syntax.{w64}
use borrow.Author.Rules.{rules}
use Rattle.integer.specs.Linear.{back}
use Rattle.earned.proofs.performance.amount_or_zero.Goals as goal

pub returns-in-None : goal.returns-in-None
returns-in-None c = rw c.in-None.is refl

pub returns-in-Some : goal.returns-in-Some
returns-in-Some c = rw c.in-Some.is (back w64 _ c.in-Some.known_told-1-own.given.0.1)
