-- `leaf_earned` meets its contract: by the mark.
use mathlib.Core.Path.{refl, ap₂, ◌∙◌}
use lib.IntN.{ℤ}
use mir.Syntax.{w64}
use mir.Facts.{to_z-of_z}
use borrow.Author.Rules.{rules}
use borrow.Author.Tests.{eq-eqb, ne_eqb}
use Rattle.integer.specs.Linear.{back}
use Rattle.floats.specs.Figures.{earned_of}
use Rattle.earned.specs.Done.{done_in}
use Rattle.earned.proofs.measured.leaf_earned.Goals as goal

pub returns-then-parent-eq0 : goal.returns-then-parent-eq0
returns-then-parent-eq0 c =
    let a = c.args in
    rw (eq-eqb _ _ c.if-parent-eq0.true)
    (back w64 c.earned.result c.earned.type_inv
    ∙ c.earned.ensures
    ∙ ap₂ earned_of (to_z-of_z c.ranges.budget)
    (c.share_done.ensures ∙ ap₂ (λ (d u : ℤ). done_in a.technique a.schedule.now a.i d u) (back w64 _ c.done-1.given) (back w64 _ c.all-1.given)))

pub returns : goal.returns
returns c = rw (ne_eqb _ _ c.if-parent-eq0.false) refl
