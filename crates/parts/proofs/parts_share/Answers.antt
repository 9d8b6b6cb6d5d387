-- `parts_share` meets its contract: by its call, where there are days.
use mathlib.Core.Path.{refl, ap, ◌∙◌}
use lib.IntN.{ℤ}
use mir.Syntax.{w64}
use mir.Facts.{to_z-of_z}
use borrow.Author.Tests.{eq-eqb, ne_eqb}
use Rattle.integer.specs.Linear.{back}
use Rattle.money.specs.Shares.{share_of}
use Rattle.parts.proofs.parts_share.Goals as goal

pub returns-then-n-eq0 : goal.returns-then-n-eq0
returns-then-n-eq0 c = rw (eq-eqb _ _ c.if-n-eq0.true) refl

pub returns : goal.returns
returns c =
    rw (ne_eqb _ _ c.if-n-eq0.false) (back w64 _ c.share.type_inv ∙ c.share.ensures ∙ ap (λ (z : ℤ). share_of z c.args.n c.args.k) (to_z-of_z c.ranges.amount))
