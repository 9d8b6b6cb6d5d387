-- `date_number` meets its contract: by what is given.
use Prim.Native.Nat.{ℕ, ◌+◌, ◌*◌, ◌^◌, ◌<◌}
use mathlib.Core.Path.{◌≡◌, refl, ap₂, ◌∙◌}
use native.Mathlib.Omega.{arith}
use lib.IntN.{ℤ, pos, ◌+ℤ◌}
use lib.Signed.{mag}
use mir.Syntax.{w32, w64}
use mir.Val.{SFits, to_z, of_z}
use mir.Facts.{to_z-of_z, to_z_pos}
use Rattle.integer.specs.Linear.{linear, back, within, sum}
use Rattle.parts.proofs.date_number.Goals as goal

-- a month and a day of 32 bits leave room for the year
room : (n : ℕ) (y : ℤ) → n < 1000000000000000000 → SFits w32 y → SFits w64 (pos n +ℤ y)
room n y h f = omega (linear, within f, sum (pos n) y)

-- the sum as the code has it
is_sum :
    (n : ℕ) (y r : ℤ) → n < 1000000000000000000 → SFits w32 y → mag r < 2 ^ 63 → r ≡ to_z w32 (of_z w32 y) →
    to_z w64 n +ℤ to_z w64 (of_z w64 r) ≡ pos n +ℤ y
is_sum n y r h f g e = ap₂ ◌+ℤ◌ (to_z_pos w64 {n = n} (omega (arith, h))) (back w64 r g ∙ e ∙ to_z-of_z f)

pub overflow_add-result : goal.overflow_add-result
overflow_add-result c =
    let year : SFits w32 c.in-Some.x.year = record { sfits = omega arith } in
    let high : (c.from.result * 100 + c.from-in-Some.result) * 1048576 < 1000000000000000000 = omega (arith, c.from.ensures, c.from-in-Some.ensures) in
    rw (is_sum _ _ _ high year c.from-in-Some-2.type_inv c.from-in-Some-2.ensures) (room _ _ high year)

pub returns-in-Some : goal.returns-in-Some
returns-in-Some c =
    let year : SFits w32 c.in-Some.x.year = record { sfits = omega arith } in
    let high : (c.from.result * 100 + c.from-in-Some.result) * 1048576 < 1000000000000000000 = omega (arith, c.from.ensures, c.from-in-Some.ensures) in
    rw (c.in-Some.is, is_sum _ _ _ high year c.from-in-Some-2.type_inv c.from-in-Some-2.ensures, ← c.from.ensures, ← c.from-in-Some.ensures) (to_z-of_z (room _ _ high year))

pub returns-in-None : goal.returns-in-None
returns-in-None c = rw c.in-None.is refl
