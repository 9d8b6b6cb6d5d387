-- `put_figures` meets its contract: five figures set one behind the other.
use native.Mathlib.Omega.{arith}
use mathlib.Core.Path.{ap, ◌∙◌}
use lib.ListN.{length-set}
use mir.Syntax.{w64}
use borrow.Author.Rules.{rules}
use Rattle.integer.specs.Linear.{back}
use Rattle.money.specs.Words.{bits}
use Rattle.value.proofs.Reading.{five_set}
use Rattle.value.proofs.put_figures.Goals as goal
use Rattle.value.proofs.put_figures.Goals.{After-to_bits-5, Start}

-- at the function's entry
abbrev start : After-to_bits-5 → Start
start c =
    let third = c.before.before.before.before in
    let first = third.before.before.before.before in
    first.before.before.before

pub returns : goal.returns
returns c =
    let e = c.args.e in
    let told = c.struct_told-1.given in
    five_set c.args.out.now c.args.at e
    (c.to_bits.ensures ∙ ap bits (back w64 e.budget told.0.1))
    (c.to_bits-2.ensures ∙ ap bits (back w64 e.planned told.1.0.1))
    (c.to_bits-3.ensures ∙ ap bits (back w64 e.earned told.1.1.0.1))
    (c.to_bits-4.ensures ∙ ap bits (back w64 e.actual told.1.1.1.0.1))
    (c.to_bits-5.ensures ∙ ap bits (back w64 e.remaining told.1.1.1.1.0.1))

pub bounds-out-at-2 : goal.bounds-out-at-2
bounds-out-at-2 c = simp length-set (omega arith)

pub bounds-out-at-3 : goal.bounds-out-at-3
bounds-out-at-3 c = simp length-set (omega arith)

pub bounds-out-at-4 : goal.bounds-out-at-4
bounds-out-at-4 c = simp length-set (omega arith)

pub overflow_add-out-4 : goal.overflow_add-out-4
overflow_add-out-4 c = omega (arith, (start c).requires, (start c).well_formed.1.1.0)

pub offset_bounds-out-at-5 : goal.offset_bounds-out-at-5
offset_bounds-out-at-5 c = omega (arith, (start c).requires, (start c).well_formed.1.1.0)

pub bounds-out-at-5 : goal.bounds-out-at-5
bounds-out-at-5 c = simp length-set (omega (arith, (start c).requires))

pub shape_of-out : goal.shape_of-out
shape_of-out c = simp length-set
