-- Years and days in range, and the distance of two days, fit a signed number of 32 bits.
-- Assumes nothing.
use mathlib.Core.Path.{◌≡◌}
use mathlib.Core.Bool.{true}
use lib.IntN.{ℤ, pos, negsuc, ◌-ℤ◌}
use mir.Syntax.{w32}
use mir.Val.{SFits}
use Rattle.integer.specs.Linear.{linear, dif}
use Rattle.gregorian.proofs.Counts.{between_true}
use Rattle.dates.specs.Date.{is_year, is_day}
use Rattle.dates.proofs.Counts.{day_bounds}

pub year_fits : (y : ℤ) → is_year y ≡ true → SFits w32 y
unfolding is_year
year_fits y e = let b = between_true (negsuc 9998) (pos 9999) y e in omega linear

pub day_fits : (z : ℤ) → is_day z ≡ true → SFits w32 z
day_fits z e = let b = day_bounds z e in omega linear

pub distance_fits : (a b : ℤ) → is_day a ≡ true → is_day b ≡ true → SFits w32 (a -ℤ b)
distance_fits a b e f =
    let p = day_bounds a e in
    let q = day_bounds b f in
    omega (linear, dif a b)
