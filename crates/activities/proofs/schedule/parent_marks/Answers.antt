-- `parent_marks` meets its contract: the parent of an activity a turn.
use Prim.Native.Nat.{ℕ, ◌*◌, ◌+◌, ◌-◌, ◌<◌}
use native.Mathlib.Omega.{arith}
use mathlib.Core.Path.{◌≡◌, sym, ap, ◌∙◌}
use mathlib.Core.Logic.{⊎_elim}
use lib.ListN.{length, get_or, set, length-set, length-replicate}
use lib.Seq.{set_out}
use borrow.Author.Rules.{rules}
use Rattle.format.specs.Book.{Book}
use Rattle.activities.specs.Schedule.{schedule_of}
use Rattle.activities.proofs.Scheduling.{schedule_length, parent_at}
use Rattle.activities.proofs.Marking.{Marking, marking_none, marking_more, marked_leaves}
use Rattle.activities.proofs.schedule.parent_marks.Goals as goal
use Rattle.activities.proofs.schedule.parent_marks.Goals.{else-parent-lt500, then-parent-lt500}

pub loop-i-init : goal.loop-i-init
loop-i-init c = (length-replicate {A = ℕ} 500 0, λ book e. marking_none book.activities)

pub loop-i-preserved : goal.loop-i-preserved
loop-i-preserved c =
    let loop = c.loop-i in
    let taken = c.loop-i-test.true in
    let parent = get_or c.args.schedule.now (loop.i * 13 + 0) 0 in
    let marked : c.if-parent-lt500.marks ≡ set loop.marks parent 1 =
    elim c.if-parent-lt500.branch [ then-parent-lt500 w ↦ w.marks-is | else-parent-lt500 w ↦ w.marks-is ∙ sym (set_out loop.marks parent 1 (omega (arith, loop.invariant.0))) ]
    in (
      ap length marked ∙ length-set loop.marks parent 1 ∙ loop.invariant.0,
      λ book e.
          let among : loop.i < length book.activities = omega (arith, schedule_length book e, taken) in
          marking_more (loop.invariant.1 book e) loop.invariant.0 among (marked ∙ ap (λ (p : ℕ). set loop.marks p 1) (parent_at book e loop.i among)),
    )

pub returns : goal.returns
returns c =
    let loop = c.loop-i in
    λ book e. marked_leaves book (loop.invariant.1 book e) (omega (arith, schedule_length book e, c.loop-i-test.false)) (omega (arith, schedule_length book e, c.requires))
