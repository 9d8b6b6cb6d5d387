-- What may be absent, as numbers.
use Rattle.std.specs.Prelude.{None, Option, Some}
use mathlib.Core.Path.{◌≡◌, refl}
use Prim.Native.Nat.{ℕ}
use lib.ListN.{length}
use Rattle.rows.specs.Rows.{optional}

-- it takes two
pub optional_two : (o : Option ℕ) → length (optional o) ≡ 2
unfolding optional
optional_two None = refl
optional_two (Some n) = refl
