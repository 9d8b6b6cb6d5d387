-- `lines_in` meets its contract: too short a slice, or the rows.
use native.Mathlib.Omega.{arith}
use mathlib.Core.Path.{refl, sym, ap, ◌∙◌}
use Prim.Native.Nat.{ℕ, ◌*◌}
use lib.Seq.{length-take-le}
use Rattle.format.specs.Verdict.{content}
use Rattle.answers.specs.Rows.{budget_rows}
use Rattle.answers.proofs.Sized.{no_room, in_front}
use Rattle.budget.proofs.Sized.{budget_sized}
use borrow.Author.Rules.{rules}
use Rattle.budget.proofs.lines.lines_in.Goals as goal

pub hand_lines-count-requires : goal.hand_lines-count-requires
hand_lines-count-requires c =
    record { opened = c.requires.opened; schedule_value = (c.read_activities.ensures.read, c.read_activities.ensures.above); accounts_value = (refl, refl) }

pub returns-then-out-n : goal.returns-then-out-n
returns-then-out-n c =
    no_room (budget_rows (content c.args.book.now)) _ (budget_sized _ _ c.hand_lines-count.ensures.count) (omega (arith, c.if-out-n.true))

pub slice_bounds-put_in-end-2 : goal.slice_bounds-put_in-end-2
slice_bounds-put_in-end-2 c = sym (length-take-le (c.hand_lines-count.result * 10) c.args.out.now (omega (arith, c.if-out-n.false)))

pub put_in-requires : goal.put_in-requires
put_in-requires c =
    let told = c.hand_lines-count.ensures in record {
      opened = c.requires.opened;
      schedule_value = (c.read_activities.ensures.read, c.read_activities.ensures.above);
      handed = told.handed;
      costs_len = c.requires.schedule_len.2;
      out_len = length-take-le (c.hand_lines-count.result * 10) c.args.out.now (omega (arith, c.if-out-n.false)) ∙ ap (λ (n : ℕ). n * 10) told.count;
    }

pub returns : goal.returns
returns c =
    in_front (budget_rows (content c.args.book.now)) c.args.out.now (budget_sized _ _ c.hand_lines-count.ensures.count) (omega (arith, c.if-out-n.false)) _ c.put_in.ensures

pub shape_of-schedule-then-out-n : goal.shape_of-schedule-then-out-n
shape_of-schedule-then-out-n c = c.schedule-1.given

pub shape_of-parents-then-out-n : goal.shape_of-parents-then-out-n
shape_of-parents-then-out-n c = c.parents-1.given

pub shape_of-schedule : goal.shape_of-schedule
shape_of-schedule c = c.schedule-1.given

pub shape_of-parents : goal.shape_of-parents
shape_of-parents c = c.parents-1.given

pub shape_of-costs : goal.shape_of-costs
shape_of-costs c = c.costs-1.given
