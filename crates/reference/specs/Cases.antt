-- The thirteen reference cases of document 01, a table under one theorem: for each, what the definition gives and what it must give.
-- A value that may be absent is no number or one.
use Rattle.std.specs.Prelude.{ℕ, ◌+◌, ◌≡◌, List, [], ◌∷◌, map, ℤ, pos, neg_ℤ, Option, Some, None}
use Rattle.std.specs.Float.Ieee.{of_int, mul, div, lt}
use Rattle.money.specs.Shares.{share_of as shareOfDay, shares_from, spread}
use Rattle.money.specs.Scale.{in_range, scaled_by, priced_at}
use Rattle.floats.specs.Rounding.{rounded, whole_of}
use Rattle.floats.specs.Figures.{one, share_of, earned_of}
use Rattle.format.specs.Book.{Price}
use Rattle.format.specs.declared.EtcTechnique.TheVariants.{Cpi, CpiSpi}
use Rattle.model.specs.declared.Earned.{Earned}
use Rattle.model.specs.Forecast.{cpi, spi, to_earn, etc}
use Rattle.lists.specs.Lists.{keep}
use Rattle.model.specs.Costs.{later, price_among, price_on}
use Rattle.dates.specs.Date.{from_ymd}
use Rattle.dates.proofs.Cases.{leap_day_2000, no_leap_day_2100}
use Rattle.computus.specs.Easter.{easter_of}
use Rattle.computus.proofs.Cases.{easter_2024}

abbrev pub minus : ℕ → ℤ
minus n = neg_ℤ (pos n)

-- the largest number of 64 bits
abbrev pub MAX : ℕ
MAX = 0x7fff_ffff_ffff_ffff

pub record Case : Type 0 where
  pub number : ℕ
  pub gives : List ℤ
  pub expected : List ℤ

abbrev pub alone : ℤ → List ℤ
alone z = z ∷ []

-- a price without a day, and one from a day on
abbrev pub undated : ℕ → Price
undated z = record { from = None; per_unit = pos z }

abbrev pub since : ℕ → ℕ → Price
since day z = record { from = Some day; per_unit = pos z }

-- undated 100, then 200 and 300 from 20,000
abbrev pub three_prices : List Price
three_prices = undated 100 ∷ since 20000 200 ∷ since 20000 300 ∷ []

-- budget 1,000, earned −100, planned 200, actual 100; what remains is not asked for
abbrev pub earned_below_zero : Earned
earned_below_zero = record { budget = pos 1000; planned = pos 200; earned = minus 100; actual = pos 100; remaining = pos 0 }

abbrev pub day_in : Option ℤ → List ℤ
day_in (Some z) = z ∷ []
day_in None = []

unfoldable pub cases : List Case
cases =
    -- −7 over 3 days
    record { number = 1; gives = spread (minus 7) 3; expected = minus 3 ∷ minus 2 ∷ minus 2 ∷ [] }
    -- amount 2 over 3 days
    ∷ record { number = 2; gives = spread (pos 2) 3; expected = pos 1 ∷ pos 1 ∷ pos 0 ∷ [] }
    -- no days
    ∷ record { number = 3; gives = spread (pos 2) 0; expected = [] }
    -- 150 units at −333
    ∷ record { number = 4; gives = alone (priced_at (pos 150) (minus 333)); expected = alone (minus 499) }
    -- 2^63 − 1 units at 100
    ∷ record { number = 5; gives = alone (priced_at (pos MAX) (pos 100)); expected = alone (pos MAX) }
    -- its negative at 101, as document 02's fifth request has it: −2^63
    ∷ record { number = 6; gives = alone (priced_at (minus MAX) (pos 101)); expected = alone (minus (MAX + 1)) }
    -- undated 100, then 200 and 300 from 20,000: on the day before, and on the day
    ∷ record { number = 7; gives = alone (price_on three_prices 19999); expected = alone (pos 100) }
    ∷ record { number = 7; gives = alone (price_on three_prices 20000); expected = alone (pos 300) }
    -- 70 from 20,010, 60 from 20,000: before both
    ∷ record { number = 8; gives = alone (price_on (since 20010 70 ∷ since 20000 60 ∷ []) 19000); expected = alone (pos 70) }
    -- budget −5 half done
    ∷ record { number = 9; gives = alone (earned_of (minus 5) (share_of (pos 5000))); expected = alone (minus 3) }
    -- budget 10^16 completed
    ∷ record { number = 10; gives = alone (earned_of (pos 10000000000000000) one); expected = alone (pos 9000000000000000) }
    -- budget 1,000, earned −100, planned 200, actual 100: by both indices, and by the first alone
    ∷ record { number = 11; gives = alone (etc CpiSpi earned_below_zero); expected = alone (pos 2200) }
    ∷ record { number = 11; gives = alone (etc Cpi earned_below_zero); expected = alone (pos 1100) }
    -- 29 February 2000, and 2100
    ∷ record { number = 12; gives = day_in (from_ymd (pos 2000) 2 29); expected = alone (pos 11016) }
    ∷ record { number = 12; gives = day_in (from_ymd (pos 2100) 2 29); expected = [] }
    -- Easter 2024
    ∷ record { number = 13; gives = day_in (easter_of (pos 2024)); expected = alone (pos 19813) }
    ∷ []

pub reference_cases : map (λ (c : Case). c.gives) cases ≡ map (λ (c : Case). c.expected) cases
unfolding cases later price_among price_on keep shareOfDay shares_from in_range scaled_by etc to_earn cpi spi rounded whole_of of_int mul div lt
reference_cases = rw (leap_day_2000, no_leap_day_2100, easter_2024)
