-- `is_used` meets its contract: one activity a turn, until one has the calendar.
use Prim.Native.Nat.{ℕ}
use native.Mathlib.Omega.{arith}
use mathlib.Core.Path.{◌≡◌, sym, ◌∙◌}
use mathlib.Core.Bool.{false, true≢false}
use Rattle.flat.proofs.Cells.{row_inside}
use Rattle.variances.specs.Changed.{row_of}
use Rattle.variances.specs.Days.{is_under}
use Rattle.variances.proofs.Dating.{one_more}
use Rattle.variances.proofs.days.is_used.Goals as goal

pub loop-i-init : goal.loop-i-init
loop-i-init c = λ k h. absurd (omega arith)

pub is_under-requires : goal.is_under-requires
is_under-requires c =
    let h = c.loop-i-test.true in
    (omega (arith, c.requires.scheduled, row_inside 13 h), omega (arith, c.requires.rows, row_inside 5 h))

pub returns-then-is_under : goal.returns-then-is_under
returns-then-is_under c = λ e. absurd (true≢false e)

pub loop-i-preserved : goal.loop-i-preserved
loop-i-preserved c =
    let loop = c.loop-i in
    let a = c.args in
    one_more (λ (k : ℕ). is_under a.schedule.now a.number k (row_of 5 a.out.now k) ≡ false) loop.invariant (sym c.is_under.ensures ∙ c.if-is_under.false)

pub returns : goal.returns
returns c = λ e k h. c.loop-i.invariant k (omega (arith, c.loop-i-test.false))
