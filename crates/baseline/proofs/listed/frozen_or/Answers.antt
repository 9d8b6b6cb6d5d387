-- `frozen_or` meets its contract: by the two marks.
use mathlib.Core.Path.{refl, ap₂, ◌∙◌}
use mathlib.Core.Bool.{cond}
use lib.Dec.{eqb}
use lib.IntN.{ℤ}
use mir.Syntax.{w64}
use mir.Facts.{to_z-of_z}
use borrow.Author.Tests.{ne_eqb, eq-eqb}
use Rattle.integer.specs.Linear.{back}
use Rattle.baseline.proofs.listed.frozen_or.Goals as goal

pub returns-then-parent-eq0 : goal.returns-then-parent-eq0
returns-then-parent-eq0 c =
    rw (eq-eqb _ _ c.if-parent-eq0.true)
    (back w64 c.lined_or.result c.lined_or.type_inv
    ∙ c.lined_or.ensures
    ∙ ap₂ (λ (x y : ℤ). cond (eqb c.args.mark 0) x y) (to_z-of_z c.ranges.cost) (back w64 c.from_bits.result c.from_bits.type_inv ∙ c.from_bits.ensures))

pub returns-else-parent-eq0 : goal.returns-else-parent-eq0
returns-else-parent-eq0 c = rw (ne_eqb _ _ c.if-parent-eq0.false) refl
