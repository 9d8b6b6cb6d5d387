-- `down` meets its contract: one branch a turn.
use native.Mathlib.Omega.{arith}
use Rattle.descent.proofs.Turns.{nothing, room_here, ready_next, shorter, going_first, going_next, going_last}
use Rattle.descent.proofs.+down.Goals as goal

pub returns-then-left-eq0 : goal.returns-then-left-eq0
returns-then-left-eq0 t c =
    let a = c.args in
    let none = nothing a.first.now a.next.now a.lines.now a.left a.level a.p a.from c.if-left-eq0.true in
    record { count = none.0; lines = none.1 }

pub loop-i-init : goal.loop-i-init
loop-i-init t c =
    let a = c.args in
    going_first a.first.now a.next.now a.lines.now a.left a.level a.p a.from

pub put_line-requires : goal.put_line-requires
put_line-requires t c =
    let a = c.args in
    let l = c.loop-i in
    omega (
      arith,
      room_here a.first.now a.next.now a.lines.now a.left a.level a.p a.from l.lines l.made l.i l.invariant c.requires (omega arith) c.loop-i-test.true,
      l.invariant.same,
    )

pub overflow_add-made : goal.overflow_add-made
overflow_add-made t c =
    let a = c.args in
    let l = c.loop-i in
    omega (
      arith,
      room_here a.first.now a.next.now a.lines.now a.left a.level a.p a.from l.lines l.made l.i l.invariant c.requires (omega arith) c.loop-i-test.true,
    )

pub down-made-requires : goal.down-made-requires
down-made-requires t c =
    let a = c.args in
    let l = c.loop-i in (
      omega (arith, c.decreases),
      ready_next a.first.now a.next.now a.lines.now a.left a.level a.p a.from l.lines l.made l.i l.invariant c.requires (omega arith) c.loop-i-test.true _ c.put_line.ensures,
    )

pub loop-i-smaller : goal.loop-i-smaller
loop-i-smaller t c = shorter c.args.first.now c.args.next.now c.loop-i.i c.requires.rises c.loop-i-test.true

pub loop-i-preserved : goal.loop-i-preserved
loop-i-preserved t c =
    let a = c.args in
    let l = c.loop-i in
    let d = c.down-made in
    going_next a.first.now a.next.now a.lines.now a.left a.level a.p a.from l.lines l.made l.i l.invariant
    c.requires.rises (omega arith) c.loop-i-test.true c.put_line.ensures d.ensures.count d.ensures.lines

pub returns : goal.returns
returns t c =
    let a = c.args in
    let l = c.loop-i in
    let all = going_last a.first.now a.next.now a.lines.now a.left a.level a.p a.from l.lines l.made l.i l.invariant c.loop-i-test.false in
    record { count = all.0; lines = all.1 }
