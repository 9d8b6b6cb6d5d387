-- `brief` meets its contract: one byte or two, or nothing is read.
use Prim.Native.Nat.{◌<◌}
use native.Mathlib.Omega.{arith}
use Rattle.fields.proofs.Groups.{one_byte, two_bytes}
use Rattle.fields.proofs.numbers.brief.Goals as goal
use Rattle.fields.proofs.numbers.brief.Goals.{Then-second-lt128}

pub returns-then-first-lt128 : goal.returns-then-first-lt128
returns-then-first-lt128 c = one_byte _ _ _ (omega arith) c.from-first.ensures (omega arith)

-- the first byte
byte : (c : Then-second-lt128) → c.from-first.result < 256
byte c =
    omega (arith, c.from-first.ensures, c.shared_slice_known-2-1.given c.args.place)

pub overflow_add-result-then-second-lt128 : goal.overflow_add-result-then-second-lt128
overflow_add-result-then-second-lt128 c = omega (arith, byte (goal.at.overflow_add-result-then-second-lt128 c).Then-second-lt128)

pub returns-then-second-lt128 : goal.returns-then-second-lt128
returns-then-second-lt128 c =
    two_bytes _ _ _ _ c.requires c.from-first.ensures c.from-second.ensures (omega arith) (byte (goal.at.returns-then-second-lt128 c).Then-second-lt128)
    c.if-second-eq0.false
    (omega arith)
