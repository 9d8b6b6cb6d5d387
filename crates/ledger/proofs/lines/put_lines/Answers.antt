-- `put_lines` meets its contract: the project's line, then one line a turn where an activity is marked.
use Rattle.std.specs.Prelude.{None}
use Prim.Native.Nat.{◌-◌}
use native.Mathlib.Omega.{arith}
use mathlib.Core.Path.{◌≡◌, refl, sym, ap, ◌∙◌}
use mathlib.Core.Bool.{not}
use mathlib.Core.List.{map, flat_map}
use mathlib.Core.Logic.{⊎_elim}
use lib.IntN.{ℤ}
use lib.ListN.{length}
use lib.Seq.{sets}
use mir.Syntax.{w64}
use mir.Facts.{to_z-of_z}
use mir.Val.{to_z}
use Rattle.integer.specs.Linear.{seen}
use borrow.Author.Tests.{eq-eqb, ne_eqb}
use Rattle.model.specs.Budgets.{BudgetLine}
use Rattle.flat.proofs.Tables.{flat_length}
use Rattle.flat.proofs.Written.{Writing, writing_none, writing_length, writing_room, writing_more, writing_past, writing_end}
use Rattle.answers.specs.Rows.{budget_row}
use Rattle.ledger.specs.Accounts.{is_marked}
use Rattle.ledger.specs.Lines.{line_in, activity_line, lines_in}
use Rattle.ledger.proofs.Named.{onward, onward_first, onward_taken, onward_passed, onward_end}
use Rattle.ledger.proofs.Lined.{row_long}
use borrow.Author.Rules.{rules}
use Rattle.ledger.proofs.lines.put_lines.Goals as goal
use Rattle.ledger.proofs.lines.put_lines.Goals.{At-loop-i, In-loop-i, Start, else-marks-i-ne0, then-marks-i-ne0}

pub put_project-requires : goal.put_project-requires
unfolding lines_in
put_project-requires c = omega (arith, c.requires.out_len)

pub loop-i-init : goal.loop-i-init
unfolding lines_in
loop-i-init c =
    let line = activity_line c.args.accounts.now c.args.parents.now c.args.costs.now in
    let test = is_marked c.args.marks.now in
    let n = length c.args.parents.now in
    let first = writing_none 10 budget_row (lines_in c.args.accounts.now c.args.parents.now c.args.costs.now c.args.marks.now (seen w64 c.args.whole)) row_long c.args.out.now c.requires.out_len in
    writing_past (writing_more first refl (row_long (line_in c.args.accounts.now None 0 (seen w64 c.args.whole))) refl
    c.put_project.ensures) (ap (map line) (sym (onward_first test n))) refl refl

pub put_line-requires : goal.put_line-requires
put_line-requires c =
    let l = c.loop-i in
    writing_room l.invariant (ap (map _) (onward_taken _ _ l.i c.loop-i-test.true (ap not (ne_eqb _ _ c.if-marks-i-ne0.true))))

pub overflow_add-at : goal.overflow_add-at
unfolding lines_in
overflow_add-at c =
    let l = c.loop-i in
    let full : length l.out ≡ length c.args.out.now = writing_length l.invariant ∙ flat_length 10 budget_row row_long _ ∙ sym c.requires.out_len in
    omega (arith, writing_room l.invariant (ap (map _) (onward_taken _ _ l.i c.loop-i-test.true (ap not (ne_eqb _ _ c.if-marks-i-ne0.true)))), full)

pub loop-i-preserved : goal.loop-i-preserved
loop-i-preserved c =
    let l = c.loop-i in
    let more = c.loop-i-test.true in
    elim c.if-marks-i-ne0.branch [
      | then-marks-i-ne0 w ↦
          writing_more l.invariant (ap (map _) (onward_taken _ _ l.i more (ap not (ne_eqb _ _ w.if-marks-i-ne0.true)))) (row_long _) w.at-is
          (w.out-is ∙ w.put_line.ensures ∙ ap (λ (x : BudgetLine). sets l.out l.at (budget_row x)) w.line_of-line.ensures)
      | else-marks-i-ne0 w ↦ writing_past l.invariant (ap (map _) (onward_passed _ _ l.i more (ap not (eq-eqb _ _ w.if-marks-i-ne0.false)))) w.at-is w.out-is
    ]

pub shape_of-out : goal.shape_of-out
unfolding lines_in
shape_of-out c = writing_length c.loop-i.invariant ∙ flat_length 10 budget_row row_long _ ∙ sym c.requires.out_len

pub returns : goal.returns
returns c =
    let l = c.loop-i in
    let a = c.args in
    writing_end l.invariant (ap (map _) (onward_end _ _ l.i c.loop-i-test.false))
    ∙ ap (λ (z : ℤ). flat_map budget_row (lines_in a.accounts.now a.parents.now a.costs.now a.marks.now z)) (to_z-of_z c.ranges.whole)
