-- `walk_up` meets its contract. The loop's invariant: the steps made, with those that are ahead, are the whole walk's.
use Prim.Native.Nat.{ℕ, ◌-◌}
use mathlib.Core.Path.{sym, ap, ◌∙◌}
use native.Mathlib.Nat.{sub-zero}
use native.Mathlib.Omega.{arith}
use lib.ListN.{length, get_or}
use Rattle.model.specs.Tree.{steps_made}
use Rattle.tree.proofs.Walks.{ahead, walk_is, ahead_done, ahead_top, ahead_next}
use Rattle.tree.proofs.walk_up.Goals as goal

pub loop-made-init : goal.loop-made-init
loop-made-init c =
    let ps = c.args.parents.now in
    let e = ap (λ (k : ℕ). ahead ps k (get_or ps c.args.from 0)) (sub-zero c.args.limit) ∙ sym (walk_is ps c.args.limit c.args.from c.requires) in
    omega (arith, ap length e)

pub overflow_add-made : goal.overflow_add-made
overflow_add-made c = omega arith

pub loop-made-smaller : goal.loop-made-smaller
loop-made-smaller c = omega arith

pub loop-made-preserved : goal.loop-made-preserved
loop-made-preserved c =
    let l = c.loop-made in
    let s = c.args in
    omega (arith, l.invariant, ap length (ahead_next s.parents.now s.limit l.made l.at (omega arith) (omega arith)))

pub returns-then-limit-made : goal.returns-then-limit-made
unfolding steps_made
returns-then-limit-made c =
    let l = c.loop-made in
    let s = c.args in
    omega (arith, l.invariant, ap length (ahead_done s.parents.now s.limit l.made l.at (omega arith)))

pub returns-then-count-at : goal.returns-then-count-at
unfolding steps_made
returns-then-count-at c =
    let l = c.loop-made in
    let s = c.args in
    omega (arith, l.invariant, ap length (ahead_top s.parents.now (s.limit - l.made) l.at (omega arith)))
