-- `number` meets its contract: by what is given.
use Prim.Native.Nat.{◌^◌, ◌<◌}
use mathlib.Core.Path.{refl, ◌∙◌}
use native.Mathlib.Omega.{arith}
use lib.Signed.{mag}
use mir.Syntax.{w32, w64}
use Rattle.integer.specs.Linear.{back}
use Rattle.parts.proofs.number.Goals as goal

pub returns-in-Some : goal.returns-in-Some
returns-in-Some c =
    let days : mag c.in-Some.days < 2 ^ 31 = omega arith in
    rw c.in-Some.is (back w64 _ c.from.type_inv ∙ c.from.ensures ∙ back w32 _ days)

pub returns-in-None : goal.returns-in-None
returns-in-None c = rw c.in-None.is refl
