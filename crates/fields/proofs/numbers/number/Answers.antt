-- `number` meets its contract: the loop keeps `Reading`, and each way out is one of its laws.
use Prim.Native.Nat.{◌+◌, ◌-◌, ◌*◌, ◌^◌, ◌≤◌, ◌<◌}
use mathlib.Core.Path.{◌≡◌, refl}
use native.Mathlib.Omega.{arith}
use Rattle.fields.proofs.Groups.{Reading, Due, begin, one_byte, more_bytes, ends, wrong}
use Rattle.fields.proofs.Groups.{last, last_fits, goes_on, goes_on_fits, wrong_zero, right_more, right_tenth, wrong_tenth}
use Rattle.fields.proofs.numbers.number.Goals as goal
use Rattle.fields.proofs.numbers.number.Goals.{After-loop-at, After-from-b, Then-tenth-eq1}

pub returns-then-book-place : goal.returns-then-book-place
returns-then-book-place c = ends (begin _ _) (omega arith) c.if-book-place.true

pub returns-then-first-lt128 : goal.returns-then-first-lt128
returns-then-first-lt128 c = one_byte _ _ _ c.if-book-place.false c.from-first.ensures (omega arith)

pub loop-at-init : goal.loop-at-init
loop-at-init c =
    let byte = c.type_inv.book c.args.place in
    let nine : c.args.place + 10 - (c.args.place + 1) ≡ 9 = omega arith in
    rw nine (more_bytes _ _ _ c.if-book-place.false c.from-first.ensures (omega arith) (omega (arith, c.from-first.ensures, byte)))

pub returns-then-book-at : goal.returns-then-book-at
returns-then-book-at c = ends c.loop-at.invariant (omega arith) c.if-book-at.true

-- a last byte of 0
pub returns-then-b-eq0 : goal.returns-then-b-eq0
returns-then-b-eq0 c =
    wrong c.loop-at.invariant (omega arith) _ c.if-book-at.false c.from-b.ensures (wrong_zero _ c.from-b.result (omega arith) c.if-b-eq0.true)

-- the byte that was read, where it is not 0
due :
    (c : After-from-b) → (c.from-b.result ≡ 0 → ⊥) →
    let args = c.args in
    let l = c.loop-at in
    Due args.book.now args.place l.at (args.place + 10 - l.at) l.scale l.sum c.from-b.result
due c h =
    record {
      reading = c.loop-at.invariant;
      more = omega arith;
      inside = c.if-book-at.false;
      byte = c.from-b.ensures;
      right = right_more _ c.from-b.result (omega arith) h;
    }

pub overflow_mul-result : goal.overflow_mul-result
overflow_mul-result c = omega (arith, last_fits (due (goal.at.overflow_mul-result c).After-from-b c.if-b-eq0.false) c.if-b-lt128.true)

pub overflow_add-result-then-b-lt128 : goal.overflow_add-result-then-b-lt128
overflow_add-result-then-b-lt128 c = omega (arith, last_fits (due (goal.at.overflow_add-result-then-b-lt128 c).After-from-b c.if-b-eq0.false) c.if-b-lt128.true)

pub returns-then-b-lt128 : goal.returns-then-b-lt128
returns-then-b-lt128 c = last (due (goal.at.returns-then-b-lt128 c).After-from-b c.if-b-eq0.false) c.if-b-lt128.true

-- the byte that was read, where others follow
follows : (c : After-from-b) → 128 ≤ c.from-b.result →
    let args = c.args in
    let l = c.loop-at in
    Due args.book.now args.place l.at (args.place + 10 - l.at) l.scale l.sum c.from-b.result
follows c h = due c (λ e. omega arith)

-- what the code computes fits
fits :
    (c : After-from-b) → 128 ≤ c.from-b.result → c.from-b.result < 256 →
    let l = c.loop-at in
    (l.scale * 128 < 2 ^ 64) × (l.sum + l.scale * (c.from-b.result - 128) < l.scale * 128)
fits c h b = goes_on_fits (follows c h) h b

pub overflow_mul-sum : goal.overflow_mul-sum
overflow_mul-sum c =
    let byte : c.from-b.result < 256 = omega (arith, c.from-b.ensures, c.type_inv.book c.loop-at.at) in
    omega (arith, fits (goal.at.overflow_mul-sum c).After-from-b c.if-b-lt128.false byte)

pub overflow_add-sum : goal.overflow_add-sum
overflow_add-sum c =
    let byte : c.from-b.result < 256 = omega (arith, c.from-b.ensures, c.type_inv.book c.loop-at.at) in
    omega (arith, fits (goal.at.overflow_add-sum c).After-from-b c.if-b-lt128.false byte)

pub overflow_mul-scale : goal.overflow_mul-scale
overflow_mul-scale c =
    let byte : c.from-b.result < 256 = omega (arith, c.from-b.ensures, c.type_inv.book c.loop-at.at) in
    omega (arith, fits (goal.at.overflow_mul-scale c).After-from-b c.if-b-lt128.false byte)

pub loop-at-preserved : goal.loop-at-preserved
loop-at-preserved c =
    let l = c.loop-at in
    let place = c.args.place in
    let byte : c.from-b.result < 256 = omega (arith, c.from-b.ensures, c.type_inv.book l.at) in
    let less : place + 10 - (l.at + 1) ≡ place + 10 - l.at - 1 = omega arith in
    rw less (goes_on (follows (goal.at.loop-at-preserved c).After-from-b c.if-b-lt128.false) c.if-b-lt128.false byte)

-- the tenth byte is due
read_nine : (c : After-loop-at) → Reading c.args.book.now c.args.place (c.args.place + 9) 1 c.loop-at.scale c.loop-at.sum
read_nine c =
    let l = c.loop-at in
    let one : c.args.place + 10 - l.at ≡ 1 = omega arith in
    let here : l.at ≡ c.args.place + 9 = omega arith in
    rw (one, here) at l.invariant

pub returns-then-book-place-2 : goal.returns-then-book-place-2
returns-then-book-place-2 c = ends (read_nine (goal.at.returns-then-book-place-2 c).After-loop-at) (omega arith) c.if-book-place-2.true

-- it is 1
tenth : (c : Then-tenth-eq1) → Due c.args.book.now c.args.place (c.args.place + 9) 1 c.loop-at.scale c.loop-at.sum 1
tenth c =
    record {
      reading = read_nine (goal.at.returns-then-tenth-eq1 c).After-loop-at;
      more = omega arith;
      inside = c.if-book-place-2.false;
      byte = rw c.if-tenth-eq1.true at c.from-tenth.ensures;
      right = right_tenth 1 1 refl refl;
    }

pub overflow_add-result-then-tenth-eq1 : goal.overflow_add-result-then-tenth-eq1
overflow_add-result-then-tenth-eq1 c = omega (arith, last_fits (tenth (goal.at.overflow_add-result-then-tenth-eq1 c).Then-tenth-eq1) (omega arith))

pub returns-then-tenth-eq1 : goal.returns-then-tenth-eq1
returns-then-tenth-eq1 c =
    let once : c.loop-at.scale * 1 ≡ c.loop-at.scale = omega arith in
    let behind : c.args.place + 9 + 1 ≡ c.args.place + 10 = omega arith in
    rw (once, behind) at (last (tenth (goal.at.returns-then-tenth-eq1 c).Then-tenth-eq1) (omega arith))

pub returns : goal.returns
returns c =
    wrong (read_nine (goal.at.returns c).After-loop-at) (omega arith) _ c.if-book-place-2.false c.from-tenth.ensures
    (wrong_tenth 1 c.from-tenth.result refl (λ z. omega arith))
