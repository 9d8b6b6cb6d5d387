-- Numbers up to the limit, as an `i64` holds them. Assumes nothing.
use Rattle.std.proofs.Common.{◌≡◌, ℕ, zero, suc, ◌≤◌, ℤ, pos, ◌-ℤ◌, neg_ℤ, ap, ◌∙◌, le_trans, lt_of_le_of_lt, lit<, w64, SFits, to_z}
use native.Mathlib.Nat.{le-suc}
use lib.IntN.{+ℤ_idl}
use mir.Facts.{to_z_pos}
use Rattle.floats.specs.Rounding.{limit}

pub pos_fits : {n : ℕ} → n ≤ limit → SFits w64 (pos n)
pos_fits h = record { sfits = lt_of_le_of_lt h (lit< tt) }

pub neg_fits : (n : ℕ) → n ≤ limit → SFits w64 (neg_ℤ (pos n))
neg_fits zero h = record { sfits = lit< tt }
neg_fits (suc n) h = record { sfits = lt_of_le_of_lt (le_trans (le-suc n) h) (lit< tt) }

pub as_signed : {n : ℕ} → n ≤ limit → to_z w64 n ≡ pos n
as_signed h = to_z_pos w64 (lt_of_le_of_lt h (lit< tt))

-- 0 - n
pub from_zero : (n : ℕ) → n ≤ limit → pos 0 -ℤ to_z w64 n ≡ neg_ℤ (pos n)
from_zero n h = ap (λ (z : ℤ). pos 0 -ℤ z) (as_signed h) ∙ +ℤ_idl (neg_ℤ (pos n))
