-- The days that the holidays by Easter fall on are of Easter's own year.
-- Assumes nothing.
use Rattle.std.specs.Prelude.{Some, None}
use Prim.Native.Nat.{ℕ, suc, ◌+◌, ◌-◌, ◌/◌, ◌%◌, ◌≤◌, ◌<◌}
use mathlib.Core.Path.{◌≡◌, refl, ap, ◌∙◌}
use mathlib.Core.Logic.{◌⊎◌, inl, inr}
use mathlib.Core.Bool.{Bool, true, false}
use native.Mathlib.Omega.{arith}
use native.Mathlib.Decide.{ℕ_discrete}
use lib.IntN.{ℤ, pos, negsuc, ◌+ℤ◌, ◌-ℤ◌}
use lib.Signed.{◌≤ℤ◌}
use Rattle.integer.specs.Linear.{linear, sum, dif, abs, apart}
use Rattle.gregorian.specs.Count.{counted, signed}
use Rattle.gregorian.specs.Calendar.{month_length, days_to_month, days_to_year, day_number, civil}
use Rattle.gregorian.proofs.Leap.{year_after}
use Rattle.gregorian.proofs.Laws.{number_civil, year_from, year_before}
use Rattle.dates.specs.Date.{is_year, year_count, signed_year, epoch, day_count, is_day}
use Rattle.dates.proofs.Counts.{year_within, day_in_lem, number_within}
use Rattle.dates.proofs.Laws.{from_ymd_at}
use Rattle.computus.specs.Easter.{easter_of}
use Rattle.computus.proofs.Meeus.{meeus, meeus_is}

-- March or April
spring : (h l m q : ℕ) → q ≡ h % 30 + l % 7 - m + 114 → (q / 31 ≡ 3) ⊎ (q / 31 ≡ 4)
spring h l m q e = go (ℕ_discrete (q / 31) 3)
  where
    go : Dec (q / 31 ≡ 3) → (q / 31 ≡ 3) ⊎ (q / 31 ≡ 4)
    go (yes s) = inl s
    go (no s) = inr (omega arith)

-- far enough from the ends of the year
inside : (y m d : ℕ) → (m ≡ 3) ⊎ (m ≡ 4) → d ≤ 31 → (days_to_year y + 48 ≤ day_number y m d) × (day_number y m d + 60 < days_to_year (suc y))
unfolding day_number days_to_month month_length
inside y m d (inl e) h = rw e (omega (arith, year_after y), omega (arith, year_after y))
inside y m d (inr e) h = rw e (omega (arith, year_after y), omega (arith, year_after y))

pub record InYear (y z : ℤ) : Type 0 where
  pub in_range_lem : is_day z ≡ true
  pub year : signed_year (civil (day_count z)).year ≡ y

pub near_easter : (y e k : ℤ) → easter_of y ≡ Some e → negsuc 47 ≤ℤ k → k ≤ℤ pos 60 → InYear y (e +ℤ k)
unfolding easter_of counted signed
near_easter y e k q lo hi = go (is_year y) refl
  where
    go : (b : Bool) → is_year y ≡ b → InYear y (e +ℤ k)
    go false h = let c : None ≡ Some e = rw h at q in let z : ◌≡◌ {A = ℕ} 0 1 = cc in absurd (omega arith)
    go true h =
        let m = meeus (counted 5700000 y) in
        let f = from_ymd_at y (m / 31) (m % 31 + 1) e (meeus_is y h ∙ q) in
        let w = year_within y h in
        let n = day_number (year_count y) (m / 31) (m % 31 + 1) in
        let s = inside (year_count y) (m / 31) (m % 31 + 1) (spring _ _ _ m refl) (omega arith) in
        let z = e +ℤ k in
        let x = z +ℤ pos epoch in
        let c = day_count z in
        let t : (days_to_year (year_count y) ≤ c) × (c < days_to_year (suc (year_count y))) × (pos c -ℤ pos epoch ≡ z) =
        omega (linear, f.day, dif (pos n) (pos epoch), dif (pos c) (pos epoch), sum e k, sum z (pos epoch), abs x, apart x, s) in
        let u : (civil c).year ≡ year_count y = omega (arith, year_from (year_count y) c t.0, year_before (year_count y) c t.1) in
        let g = number_civil c in
        let r = number_within (civil c).year (civil c).month (civil c).day (omega (arith, w.from)) (omega (arith, w.upto)) g.valid in
        record {
          in_range_lem = rw (← t.2) (day_in_lem c (omega (arith, g.number)) (omega (arith, g.number)));
          year = ap signed_year u ∙ w.back;
        }
