-- `fill_budgets` meets its contract: one figure a turn.
use Prim.Native.Nat.{◌+◌, ◌*◌}
use native.Mathlib.Omega.{arith}
use mathlib.Core.Path.{refl, ap, ◌∙◌}
use mathlib.Core.Bool.{cond}
use lib.Dec.{eqb}
use lib.IntN.{ℤ}
use lib.ListN.{length, get_or}
use mir.Syntax.{w64}
use borrow.Author.Rules.{rules}
use Rattle.integer.specs.Linear.{back}
use Rattle.money.specs.Words.{of_bits}
use Rattle.activities.proofs.Scheduling.{schedule_length}
use Rattle.baseline.specs.Listed.{if_leaf}
use Rattle.baseline.proofs.Entries.{entered_none, entered_more, entered_end}
use Rattle.baseline.proofs.Listing.{budgets_listed}
use Rattle.baseline.proofs.listed.fill_budgets.Goals as goal

pub loop-i-init : goal.loop-i-init
loop-i-init c = entered_none _ _ _

pub loop-i-preserved : goal.loop-i-preserved
loop-i-preserved c =
    let i = c.loop-i.i in
    entered_more c.loop-i.invariant (omega (arith, c.loop-i-test.true, c.loop-i.invariant.long)) refl
    (back w64 c.frozen_or.result c.frozen_or.type_inv
    ∙ c.frozen_or.ensures
    ∙ ap (λ (z : ℤ). if_leaf (get_or c.parent_marks-parents.result i 0) (cond (eqb (get_or c.args.lines.now (i * 5) 0) 0) z (of_bits (get_or c.args.lines.now (i * 5 + 4) 0)))) (back w64 _ (search rules)))

pub shape_of-out : goal.shape_of-out
shape_of-out c = c.loop-i.invariant.long

pub returns : goal.returns
returns c =
    λ book r e t p.
    let n = length c.args.out.now in
    entered_end c.loop-i.invariant refl (omega (arith, c.loop-i-test.false, c.loop-i.invariant.long))
    ∙ budgets_listed book r c.parent_marks-parents.result (c.parent_marks-parents.ensures book e) t p n (omega (arith, schedule_length book e, c.requires.0))
