-- `amount_of` meets its contract, arm by arm.
use mathlib.Core.Path.{sym, ap, ◌∙◌}
use mathlib.Core.Bool.{Bool, cond}
use native.Mathlib.Omega.{arith}
use mir.Syntax.{w64}
use borrow.Author.Rules.{rules}
use borrow.Author.Tests.{lt-ltb, le-ltb}
use Rattle.integer.specs.Linear.{back}
use Rattle.laid.proofs.deal.amount_of.Goals as goal

pub returns-then-k-deal : goal.returns-then-k-deal
returns-then-k-deal c = let s = c.args in back w64 s.deal.early (search rules) ∙ sym (ap (λ (b : Bool). cond b s.deal.early s.deal.late) (lt-ltb s.k s.deal.left (omega arith)))

pub returns-else-k-deal : goal.returns-else-k-deal
returns-else-k-deal c = let s = c.args in back w64 s.deal.late (search rules) ∙ sym (ap (λ (b : Bool). cond b s.deal.early s.deal.late) (le-ltb s.k s.deal.left (omega arith)))
