-- `count_marked` meets its contract: one mark a turn.
use native.Mathlib.Omega.{arith}
use mathlib.Core.Path.{ap}
use mathlib.Core.Bool.{not}
use lib.ListN.{length}
use borrow.Author.Tests.{eq-eqb, ne_eqb}
use Rattle.ledger.specs.Accounts.{is_marked}
use Rattle.ledger.proofs.Named.{onward_first, onward_taken, onward_passed, onward_end}
use Rattle.ledger.proofs.marks.count_marked.Goals as goal
use Rattle.ledger.proofs.marks.count_marked.Goals.{else-marks-i-ne0, then-marks-i-ne0}

pub loop-i-init : goal.loop-i-init
loop-i-init c = (omega arith, omega arith, omega (arith, ap length (onward_first (is_marked c.args.marks.now) c.args.count)))

pub loop-i-preserved : goal.loop-i-preserved
loop-i-preserved c =
    let l = c.loop-i in
    let test = is_marked c.args.marks.now in
    let n = c.args.count in
    let more = c.loop-i-test.true in
    elim c.if-marks-i-ne0.branch [
      | then-marks-i-ne0 w ↦ (omega arith, omega arith, omega (arith, ap length (onward_taken test n l.i more (ap not (ne_eqb _ _ w.if-marks-i-ne0.true)))))
      | else-marks-i-ne0 w ↦ (omega arith, omega arith, omega (arith, ap length (onward_passed test n l.i more (ap not (eq-eqb _ _ w.if-marks-i-ne0.false)))))
    ]

pub returns : goal.returns
returns c =
    let l = c.loop-i in
    omega (arith, l.invariant.2, ap length (onward_end (is_marked c.args.marks.now) c.args.count l.i c.loop-i-test.false))
