-- `add_assignments` meets its contract: one assignment a turn.
use native.Mathlib.Omega.{arith}
use mathlib.Core.Path.{◌≡◌, sym, ◌∙◌, subst}
use lib.ListN.{get_or}
use Rattle.format.specs.Codec.{alike}
use Rattle.format.specs.Format.{assignment}
use Rattle.format.specs.InRange.{AssignmentInRange}
use Rattle.records.specs.Decoded.{assignment_of}
use Rattle.sections.specs.Sections.{elements}
use Rattle.calendar.proofs.Parts.{read_length, reading_none, reading_is, reading_more}
use Rattle.earned.proofs.Adding.{adding_none, adding_more, adding_end}
use Rattle.earned.proofs.units.add_assignments.Goals as goal
use Rattle.earned.proofs.units.add_assignments.Goals.{After-read_assignment-x}

-- what is read is the next assignment, one of the list
is_next : (c : After-read_assignment-x) →
    let x = assignment_of c.read_assignment-x.result in
    get_or ((alike c.args.list.count (assignment c.args.activities c.args.resources)).read c.args.book.now c.args.list.first).0 c.loop.counter x ≡ x
is_next c = reading_is _ _ _ _ c.loop.invariant.0 c.loop-test.true c.read_assignment-x.ensures _

in_range_lem : (c : After-read_assignment-x) →
    AssignmentInRange c.args.activities c.args.resources (assignment_of c.read_assignment-x.result)
unfolding elements
in_range_lem c =
    let a = c.args in
    subst (AssignmentInRange a.activities a.resources) (is_next c)
    (c.requires.every c.loop.counter _ (omega (arith, c.loop-test.true, read_length (assignment a.activities a.resources) a.book.now a.list.count a.list.first)))

pub loop-init : goal.loop-init
loop-init c = (reading_none _ _ _ _, adding_none _ _ _ c.requires.out_len.0 c.requires.out_len.1)

pub add_units-requires : goal.add_units-requires
unfolding assignment_of
add_units-requires c = omega (arith, (in_range_lem (goal.at.add_units-requires c).After-read_assignment-x).activity, c.loop.invariant.1.long)

pub loop-preserved : goal.loop-preserved
loop-preserved c =
    let a = c.args in (
      reading_more _ _ _ _ c.loop.invariant.0 c.loop-test.true c.read_assignment-x.ensures,
      adding_more c.loop.invariant.1 (assignment_of c.read_assignment-x.result)
          (omega (arith, c.loop-test.true, read_length (assignment a.activities a.resources) a.book.now a.list.count a.list.first)) (is_next (goal.at.loop-preserved c).After-read_assignment-x)
          (in_range_lem (goal.at.loop-preserved c).After-read_assignment-x).activity c.add_units.ensures,
    )

pub shape_of-out : goal.shape_of-out
shape_of-out c = c.loop.invariant.1.long ∙ sym c.requires.out_len.0

pub returns : goal.returns
unfolding elements
returns c =
    let a = c.args in
    adding_end c.loop.invariant.1 (omega (arith, c.loop-test.false, read_length (assignment a.activities a.resources) a.book.now a.list.count a.list.first))
