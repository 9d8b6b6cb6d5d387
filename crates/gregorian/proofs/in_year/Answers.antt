-- `gregorian::in_year` meets its contract.
-- Assumes nothing.
use Prim.Native.Nat.{suc}
use mathlib.Core.Path.{refl}
use native.Mathlib.Omega.{arith}
use native.Mathlib.Numerals.{add-one}
use Rattle.gregorian.proofs.Leap.{leap_le}
use Rattle.gregorian.proofs.MarchYear.{date_late, date_early}
use Rattle.gregorian.proofs.in_year.Goals as goal

pub overflow_mul-mp : goal.overflow_mul-mp
overflow_mul-mp c = omega (arith, leap_le (suc c.args.y))

pub overflow_add-mp : goal.overflow_add-mp
overflow_add-mp c = omega (arith, leap_le (suc c.args.y))

pub overflow_mul-day : goal.overflow_mul-day
overflow_mul-day c = omega (arith, leap_le (suc c.args.y))

pub overflow_add-day : goal.overflow_add-day
overflow_add-day c = omega (arith, leap_le (suc c.args.y))

pub returns-then-mp-lt10 : goal.returns-then-mp-lt10
returns-then-mp-lt10 c = date_late c.args.y c.args.doy _ c.requires.1 refl c.if-mp-lt10.true

pub returns-else-mp-lt10 : goal.returns-else-mp-lt10
returns-else-mp-lt10 c = rw add-one (date_early c.args.y c.args.doy _ c.requires.1 refl c.if-mp-lt10.false)
