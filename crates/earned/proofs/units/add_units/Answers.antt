-- `add_units` meets its contract: both sums of the activity.
use Prim.Native.Nat.{◌+◌, ◌*◌}
use mathlib.Core.Path.{ap₂, ◌∙◌}
use lib.IntN.{ℤ, ◌+ℤ◌}
use mir.Syntax.{w64}
use borrow.Author.Rules.{rules}
use Rattle.integer.specs.Clamp.{clamp}
use Rattle.integer.specs.Linear.{seen, back}
use Rattle.tree.specs.Figures.{figure_of}
use Rattle.records.specs.Decoded.{assignment_of}
use Rattle.earned.proofs.Adding.{added_is}
use Rattle.earned.proofs.units.add_units.Goals as goal

pub returns : goal.returns
unfolding assignment_of
returns c =
    let x = c.args.x in
    let plus : ℤ → ℤ → ℤ = λ a b. clamp w64 (a +ℤ b) in
    let actual = back w64 x.actual c.struct_told-1.given.1.1.1.0.1 in
    added_is c.args.out.now (assignment_of x) c.requires (seen w64 c.saturating_add.result) (seen w64 c.saturating_add-2.result)
    (back w64 c.saturating_add.result c.saturating_add.type_inv ∙ c.saturating_add.ensures ∙ ap₂ plus (back w64 (figure_of c.args.out.now (x.activity * 2)) c.worked-1.given) actual)
    (back w64 c.saturating_add-2.result c.saturating_add-2.type_inv
    ∙ c.saturating_add-2.ensures
    ∙ ap₂ plus
    (back w64 c.saturating_add-more.result c.saturating_add-more.type_inv ∙ c.saturating_add-more.ensures ∙ ap₂ plus (back w64 (figure_of c.args.out.now (x.activity * 2 + 1)) c.total-1.given) actual)
    (back w64 x.remaining c.struct_told-3-1.given.1.1.1.1.0.1))
