-- `distribute` meets its contract: one activity a turn.
use Prim.Native.Nat.{◌+◌, ◌*◌}
use native.Mathlib.Omega.{arith}
use mathlib.Core.Path.{sym, ap, subst, ◌∙◌}
use mathlib.Core.Bool.{not}
use lib.IntN.{ℤ}
use lib.ListN.{get_or}
use mir.Syntax.{w64}
use borrow.Author.Tests.{eq-eqb, ne_eqb}
use Rattle.integer.specs.Linear.{back}
use Rattle.tree.specs.Figures.{add_at}
use Rattle.ledger.proofs.Handed.{Giving, giving_none, giving_more, giving_past, giving_end}
use Rattle.ledger.proofs.distribution.distribute.Goals as goal
use Rattle.ledger.proofs.distribution.distribute.Goals.{else-marks-i-ne0, then-marks-i-ne0}

pub loop-i-init : goal.loop-i-init
loop-i-init c = (omega arith, giving_none _ _ _)

pub add_figure-requires : goal.add_figure-requires
add_figure-requires c =
    (c.requires.1 c.loop-i.i c.loop-i-test.true, omega arith)

pub loop-i-preserved : goal.loop-i-preserved
loop-i-preserved c =
    let l = c.loop-i in
    let more = c.loop-i-test.true in
    let k = get_or c.args.parents.now l.i 0 in
    elim c.if-marks-i-ne0.branch [
      | then-marks-i-ne0 w ↦ (
        omega arith,
        giving_more l.invariant.1 more (ap not (ne_eqb _ _ w.if-marks-i-ne0.true))
            (w.accounts-is
            ∙ w.add_figure.ensures
            ∙ ap (λ (z : ℤ). add_at z l.accounts (k * 6 + 5)) (back w64 w.current-given.result w.current-given.type_inv ∙ w.current-given.ensures ∙ l.invariant.1.same l.i)),
      )
      | else-marks-i-ne0 w ↦ (
        omega arith,
        subst (Giving c.args.parents.now c.args.marks.now c.args.accounts.now (l.i + 1)) (sym w.accounts-is) (giving_past l.invariant.1 more (ap not (eq-eqb _ _ w.if-marks-i-ne0.false))),
      )
    ]

pub returns : goal.returns
returns c = giving_end c.loop-i.invariant.1 c.loop-i-test.false
