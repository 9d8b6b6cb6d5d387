-- `copy_parents` meets its contract: one parent a turn.
use Prim.Native.Nat.{◌-◌}
use native.Mathlib.Omega.{arith}
use mathlib.Core.Path.{refl}
use lib.ListN.{length}
use borrow.Author.Rules.{rules}
use Rattle.activities.proofs.Rows.{Copied, copied_none, copied_more}
use Rattle.activities.proofs.Scheduling.{parents_copied}
use Rattle.activities.proofs.schedule.copy_parents.Goals as goal

pub loop-i-init : goal.loop-i-init
loop-i-init c = copied_none _ _ _ _ _ refl

pub loop-i-preserved : goal.loop-i-preserved
loop-i-preserved c = let loop = c.loop-i in copied_more loop.invariant (omega (arith, loop.invariant.long, c.loop-i-test.true)) refl

pub shape_of-out : goal.shape_of-out
shape_of-out c = c.loop-i.invariant.long

pub returns : goal.returns
returns c =
    let loop = c.loop-i in
    λ book e. parents_copied book e loop.invariant (omega (arith, loop.invariant.long, c.loop-i-test.false)) c.requires
