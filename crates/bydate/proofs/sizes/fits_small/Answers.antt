-- `fits_small` meets its contract, test by test.
use mathlib.Core.Path.{◌≡◌, ap}
use mathlib.Core.Bool.{Bool, cond}
use Prim.Native.Nat.{ℕ, ◌+◌, ◌-◌}
use native.Mathlib.Nat.{mul-le-mul_right}
use native.Mathlib.Omega.{arith}
use Rattle.bydate.proofs.sizes.fits_small.Goals as goal

pub returns-then-width-gt2048 : goal.returns-then-width-gt2048
returns-then-width-gt2048 c = λ t. let no : ◌≡◌ {A = ℕ} 0 1 = ap (λ (b : Bool). cond b 1 0) t in absurd (omega arith)

pub overflow_mul-result : goal.overflow_mul-result
overflow_mul-result c = record { fits = omega (arith, mul-le-mul_right (c.args.known.to + 1 - c.args.known.from) c.requires.2) }
