-- `add_to` meets its contract: by whether the entry closes no later.
use native.Mathlib.Omega.{arith}
use Prim.Native.Nat.{◌+◌, ◌*◌}
use mathlib.Core.Path.{ap₂, ◌∙◌}
use lib.IntN.{ℤ, pos, ◌+ℤ◌}
use lib.ListN.{get_or, length-set}
use mir.Syntax.{w64}
use borrow.Author.Tests.{le-leb, lt-leb}
use Rattle.integer.specs.Linear.{back}
use Rattle.integer.specs.Clamp.{clamp}
use Rattle.todate.proofs.Adding.{period_closed, period_open}
use Rattle.todate.proofs.add_to.Goals as goal

pub bounds-figures-at-then-close-finish : goal.bounds-figures-at-then-close-finish
bounds-figures-at-then-close-finish c = simp length-set (omega (arith, c.requires))

pub returns-then-close-finish : goal.returns-then-close-finish
returns-then-close-finish c =
    let a = c.args in
    let figures = a.figures.now in
    let first = c.saturating_add in
    let second = c.saturating_add-then-close-finish in
    let told = c.struct_told-1.given in
    let earned = back w64 (get_or figures (a.p * 3 + 1) (pos 0)) c.earned-1.given in
    let actual = back w64 (get_or figures (a.p * 3 + 2) (pos 0)) c.actual-1.given in
    let plus : ℤ → ℤ → ℤ = λ x y. clamp w64 (x +ℤ y) in
    period_closed a.close a.entry.earned a.entry.actual a.p a.finish figures c.requires (le-leb a.close a.finish (omega (arith, c.if-close-finish.true)))
    (back w64 first.result first.type_inv ∙ first.ensures ∙ ap₂ plus earned (back w64 a.entry.earned told.1.0.1))
    (back w64 second.result second.type_inv ∙ second.ensures ∙ ap₂ plus actual (back w64 a.entry.actual told.1.1.0.1))

pub returns-else-close-finish : goal.returns-else-close-finish
returns-else-close-finish c =
    let a = c.args in
    period_open a.close a.entry.earned a.entry.actual a.p a.finish a.figures.now (lt-leb a.close a.finish (omega (arith, c.if-close-finish.false)))
