-- `gregorian::civil_of` meets its contract.
-- Assumes nothing.
use Prim.Native.Nat.{ℕ, ◌-◌, ◌+◌, ◌*◌, ◌/◌, ◌%◌, ◌^◌, ◌<◌}
use mathlib.Core.Path.{refl, ap, ◌∙◌}
use native.Mathlib.Omega.{arith}
use Rattle.gregorian.specs.Calendar.{civil}
use Rattle.gregorian.proofs.Era.{year_of, EraYear, era_year, day_of_year}
use Rattle.gregorian.proofs.MarchYear.{number_of_era}
use Rattle.gregorian.proofs.civil_of.Goals as goal

rest : (z : ℕ) → z % 146097 < 146097
rest z = omega arith

-- the year of the era
here : (z : ℕ) → EraYear (z % 146097) (year_of (z % 146097))
here z = era_year (z % 146097) (rest z)

years : (z : ℕ) → z < 8000000 → z / 146097 * 400 + year_of (z % 146097) < 40000
years z h = most (z / 146097) _ (omega arith) (here z).below
  where
    most : (e r : ℕ) → e < 60 → r < 400 → e * 400 + r < 40000
    most e r h k = omega arith

pub overflow_add-era : goal.overflow_add-era
overflow_add-era c =
    record { fits = wide _ (years (c.args.n - 60) (omega arith)) }
  where
    wide : (y : ℕ) → y < 40000 → y < 2 ^ 32
    wide y h = omega arith

pub overflow_sub-doe : goal.overflow_sub-doe
overflow_sub-doe c = (here (c.args.n - 60)).first

pub in_year-requires : goal.in_year-requires
in_year-requires c =
    let z = c.args.n - 60 in
    (years z (omega arith), day_of_year (z / 146097) (z % 146097) (year_of (z % 146097)) (rest z) (here z))

pub returns : goal.returns
returns c =
    let n = c.args.n in
    c.in_year.ensures ∙ ap civil (number_of_era n ((n - 60) / 146097) ((n - 60) % 146097) _ c.requires.0 refl refl (here (n - 60)))
