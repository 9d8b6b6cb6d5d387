-- `with_sign` meets its contract: what it asks says that the sign and the magnitude fit. Assumes nothing.
use Rattle.std.proofs.Common.{◌-◌, ◌%◌, ◌^◌, ℕ, ap, ◌∙◌, w64, to_z, to_z-of_z}
use Rattle.std.proofs.Math.Facts.{of_z-to_z}
use Rattle.std.specs.Int.{int_wrapping_neg}
use Rattle.money.proofs.Bits.{turned, low}
use Rattle.money.proofs.words.with_sign.Goals as goal

pub returns-then-negative : goal.returns-then-negative
returns-then-negative c =
    let z = c.cast_signed-z in
    let turn = c.wrapping_neg in
    to_z-of_z {w = w64} (record { sfits = turn.type_inv }) ∙ turn.ensures
    ∙ ap (int_wrapping_neg w64) (to_z-of_z {w = w64} (record { sfits = z.type_inv }) ∙ z.ensures)
    ∙ ap (λ (n : ℕ). to_z w64 ((2 ^ 64 - n) % 2 ^ 64)) (of_z-to_z {w = w64} c.ranges.m)
    ∙ rw c.if-negative.true (turned c.args.m (rw c.if-negative.true at c.requires))

pub returns-else-negative : goal.returns-else-negative
returns-else-negative c =
    let z = c.cast_signed-z in
    to_z-of_z {w = w64} (record { sfits = z.type_inv }) ∙ z.ensures
    ∙ rw c.if-negative.false (low c.args.m (rw c.if-negative.false at c.requires).sfits)
