-- `dates::week::at` meets its contract.
-- Assumes nothing.
use Prim.Native.Nat.{ℕ, ◌≤◌}
use mathlib.Core.Path.{◌≡◌, sym}
use native.Mathlib.Omega.{arith}
use native.Mathlib.Decide.{ℕ_discrete}
use lib.ListN.{get_or-eq_default}
use Rattle.dates.specs.declared.week.Weekday.TheVariants.{Sunday}
use Rattle.dates.specs.Week.{week, named}
use Rattle.dates.proofs.week.at.Goals as goal

rest : (k : ℕ) → 6 ≤ k → Dec (k ≡ 6) → Sunday ≡ named k
rest k h (yes e) = rw e
rest k h (no n) = let l : 7 ≤ k = omega arith in sym (get_or-eq_default week Sunday l)

pub returns-in_default : goal.returns-in_default
returns-in_default c = rest c.args.k (omega (arith, c.in_default.in_default-own.rest)) (ℕ_discrete c.args.k 6)
