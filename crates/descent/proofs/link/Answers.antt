-- `link` meets its contract. The loop's invariant: the columns chain the activities from i on.
use Prim.Native.Nat.{ℕ, ◌-◌}
use native.Mathlib.Omega.{arith}
use mathlib.Core.Path.{◌≡◌, sym, ap, ◌∙◌}
use lib.ListN.{length, replicate}
use Rattle.descent.proofs.Links.{placed, linking_first, linking_turn, linking_last}
use Rattle.descent.proofs.link.Goals as goal

pub loop-i-init : goal.loop-i-init
loop-i-init c =
    linking_first c.args.parents.now _ c.args.next.now c.requires.1 (c.fill.ensures.after (λ y e. e) ∙ ap (λ (n : ℕ). replicate n (length c.args.parents.now)) c.requires.0)

pub offset_bounds-first-place : goal.offset_bounds-first-place
offset_bounds-first-place c =
    omega (arith, placed c.args.parents.now (c.loop-i.i - 1) c.place_of-place.ensures, c.requires, c.well_formed)

pub bounds-first-place : goal.bounds-first-place
bounds-first-place c =
    omega (arith, placed c.args.parents.now (c.loop-i.i - 1) c.place_of-place.ensures, c.loop-i.invariant.firsts)

pub offset_bounds-next-i : goal.offset_bounds-next-i
offset_bounds-next-i c =
    omega (arith, c.loop-i.invariant.within, c.well_formed)

pub offset_bounds-first-place-in-loop-i : goal.offset_bounds-first-place-in-loop-i
offset_bounds-first-place-in-loop-i c =
    omega (arith, placed c.args.parents.now (c.loop-i.i - 1) c.place_of-place.ensures, c.requires, c.well_formed)

pub bounds-first-place-in-loop-i : goal.bounds-first-place-in-loop-i
bounds-first-place-in-loop-i c =
    omega (arith, placed c.args.parents.now (c.loop-i.i - 1) c.place_of-place.ensures, c.loop-i.invariant.firsts)

pub loop-i-preserved : goal.loop-i-preserved
loop-i-preserved c =
    linking_turn c.args.parents.now c.loop-i.first c.loop-i.next c.loop-i.i (c.loop-i.i - 1) c.place_of-place.result c.loop-i.invariant (omega arith) c.place_of-place.ensures

pub returns : goal.returns
returns c =
    let loop = c.loop-i in
    let all : loop.i ≡ 0 = omega arith in
    linking_last c.args.parents.now loop.first loop.next (rw all at loop.invariant)

pub bounds-next-i : goal.bounds-next-i
bounds-next-i c = let loop = c.loop-i in omega (arith, loop.invariant.within, loop.invariant.nexts)

pub shape_of-first : goal.shape_of-first
shape_of-first c = c.loop-i.invariant.firsts ∙ sym c.requires.0

pub shape_of-next : goal.shape_of-next
shape_of-next c = c.loop-i.invariant.nexts ∙ sym c.requires.1
