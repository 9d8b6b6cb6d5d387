-- `by_half` meets its contract: what is left is below d, so each digit has 32 bits. Assumes nothing.
use Prim.Native.Nat.{ℕ, ◌+◌, ◌*◌, ◌/◌, ◌%◌, ◌<◌}
use native.Mathlib.Nat.{div-add-mod', mod-lt}
use native.Mathlib.Omega.{arith}
use Rattle.wide.specs.Words.{half}
use Rattle.wide.proofs.Quotients.{two_digits, digit_short}
use Rattle.wide.proofs.division.by_half.Goals as goal
use Rattle.wide.proofs.division.by_half.Goals.{Start}

abbrev n : Start → ℕ
n c = c.args.high * half + c.args.low / half

abbrev m : Start → ℕ
m c = n c % c.args.d * half + c.args.low % half

left : (c : Start) → n c % c.args.d < c.args.d
left c = mod-lt (n c) (omega arith)

pub overflow_mul-m : goal.overflow_mul-m
overflow_mul-m c = omega (arith, left (goal.at.overflow_mul-m c).Start)

pub overflow_add-m : goal.overflow_add-m
overflow_add-m c = omega (arith, left (goal.at.overflow_add-m c).Start)

first_short : (c : Start) → n c / c.args.d < half
first_short c = digit_short c.args.high (c.args.low / half) c.args.d c.requires.0 (omega arith)

second_short : (c : Start) → m c / c.args.d < half
second_short c = digit_short (n c % c.args.d) (c.args.low % half) c.args.d (left c) (omega arith)

pub overflow_mul-result : goal.overflow_mul-result
overflow_mul-result c = omega (arith, first_short (goal.at.overflow_mul-result c).Start)

pub overflow_add-result : goal.overflow_add-result
overflow_add-result c = omega (arith, first_short (goal.at.overflow_add-result c).Start, second_short (goal.at.overflow_add-result c).Start)

pub returns : goal.returns
returns c =
    let d = c.args.d in
    two_digits c.args.high c.args.low d (n (goal.at.returns c).Start / d) (n (goal.at.returns c).Start % d) (m (goal.at.returns c).Start / d) (m (goal.at.returns c).Start % d)
    (div-add-mod' (n (goal.at.returns c).Start) d) (div-add-mod' (m (goal.at.returns c).Start) d) (mod-lt (m (goal.at.returns c).Start) (omega arith))
