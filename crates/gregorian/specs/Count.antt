-- Signed numbers counted from a number below them.
-- Assumes nothing.
use Rattle.std.specs.Prelude.{ℕ, Bool, ◌&&◌, ℤ, pos, nat_abs, ◌+ℤ◌, ◌-ℤ◌}
use Rattle.std.specs.Int.Signed.{le_z}

-- From low to high, both included.
unfoldable pub between : ℤ → ℤ → ℤ → Bool
between low high z = le_z low z && le_z z high

-- A number from -a up, counted from -a; and back.
unfoldable pub counted : ℕ → ℤ → ℕ
counted a z = nat_abs (z +ℤ pos a)

unfoldable pub signed : ℕ → ℕ → ℤ
signed a n = pos n -ℤ pos a
