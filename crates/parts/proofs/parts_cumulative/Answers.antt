-- `parts_cumulative` meets its contract: by its call, where there are as many days.
use mathlib.Core.Path.{refl, ap, ◌∙◌}
use lib.IntN.{ℤ}
use mir.Syntax.{w64}
use mir.Facts.{to_z-of_z}
use borrow.Author.Tests.{eq-eqb, ne_eqb, lt-ltb, le-ltb}
use Rattle.integer.specs.Linear.{back}
use Rattle.integer.specs.Sums.{ints, sum}
use Rattle.money.specs.Shares.{share_of}
use Rattle.parts.proofs.parts_cumulative.Goals as goal

pub returns-then-n-eq0 : goal.returns-then-n-eq0
returns-then-n-eq0 c = rw (eq-eqb _ _ c.if-n-eq0.true) refl

pub returns-then-n-k : goal.returns-then-n-k
returns-then-n-k c = rw (ne_eqb _ _ c.if-n-eq0.false, lt-ltb _ _ c.if-n-k.true) refl

pub returns : goal.returns
returns c =
    rw (ne_eqb _ _ c.if-n-eq0.false, le-ltb _ _ c.if-n-k.false)
    (back w64 _ c.cumulative.type_inv ∙ c.cumulative.ensures ∙ ap (λ (z : ℤ). sum ints (share_of z c.args.n) c.args.k) (to_z-of_z c.ranges.amount))
