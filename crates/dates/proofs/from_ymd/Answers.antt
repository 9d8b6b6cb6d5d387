-- `dates::from_ymd` meets its contract.
-- Assumes nothing.
use Rattle.std.specs.Prelude.{Some}
use mathlib.Core.Path.{◌≡◌, ap, sym, ◌∙◌}
use mathlib.Core.Bool.{Bool, true, false}
use native.Mathlib.Omega.{arith}
use lib.Dec.{lit<}
use mir.Syntax.{w32}
use mir.Facts.{to_z-of_z}
use Rattle.gregorian.specs.Calendar.{is_date, day_number}
use Rattle.gregorian.proofs.Laws.{valid}
use Rattle.gregorian.specs.Count.{counted, signed}
use Rattle.dates.specs.Date.{is_year, year_count, from_ymd}
use Rattle.gregorian.proofs.Counts.{tested, room}
use Rattle.dates.proofs.Counts.{year_within, number_within, epoch_is}
use Rattle.dates.proofs.from_ymd.Goals as goal
use Rattle.dates.proofs.from_ymd.Goals.{After-counted_from-y, After-is_date, After-number-n, Else-not-is_year}

-- what the calls answer
is_year_lem : (c : Else-not-is_year) → is_year c.args.year ≡ true
is_year_lem c = tested is_year c.ranges.year c.is_year.ensures c.if-not-is_year.false

count : (c : After-counted_from-y) → c.counted_from-y.result ≡ year_count c.args.year
count c = c.counted_from-y.ensures ∙ ap (counted 10000) (to_z-of_z c.ranges.year)

date_test : (c : After-is_date) (b : Bool) → c.is_date.result ≡ b →
    is_date (year_count c.args.year) c.args.month c.args.day ≡ b
date_test c b e = rw (← count c.before) (sym c.is_date.ensures ∙ e)

pub returns-then-not-is_year : goal.returns-then-not-is_year
unfolding from_ymd
returns-then-not-is_year c = rw (tested is_year c.ranges.year c.is_year.ensures c.if-not-is_year.true)

pub counted_from-y-requires : goal.counted_from-y-requires
counted_from-y-requires c =
    rw (to_z-of_z c.ranges.year) (room 10000 1 19999 _ (lit< tt) (lit< tt) (year_within _ (is_year_lem (goal.at.counted_from-y-requires c).Else-not-is_year)))

pub returns-then-not-is_date : goal.returns-then-not-is_date
unfolding from_ymd
returns-then-not-is_date c =
    rw (is_year_lem (goal.at.returns-then-not-is_date c).Else-not-is_year, date_test (goal.at.returns-then-not-is_date c).After-is_date false c.if-not-is_date.true)

pub number-n-requires : goal.number-n-requires
number-n-requires c =
    let w = year_within _ (is_year_lem (goal.at.number-n-requires c).Else-not-is_year) in
    rw (count (goal.at.number-n-requires c).After-counted_from-y)
    (record { le_year = (w.from, omega (arith, w.upto)); day_value = date_test (goal.at.number-n-requires c).After-is_date true c.if-not-is_date.false })

number : (c : After-number-n) → c.number-n.result ≡
    day_number (year_count c.args.year) c.args.month c.args.day
number c = rw (← count c.before.before.before) c.number-n.ensures

pub signed_from-requires : goal.signed_from-requires
signed_from-requires c =
    let w = year_within _ (is_year_lem (goal.at.signed_from-requires c).Else-not-is_year) in
    let b = number_within _ _ _ w.from w.upto (valid _ _ _ (date_test (goal.at.signed_from-requires c).After-is_date true c.if-not-is_date.false)) in
    rw (number (goal.at.signed_from-requires c).After-number-n) (lit< tt, omega (arith, b.1))

pub returns : goal.returns
unfolding from_ymd
returns c =
    rw (is_year_lem (goal.at.returns c).Else-not-is_year, date_test (goal.at.returns c).After-is_date true c.if-not-is_date.false, epoch_is)
    (ap Some (to_z-of_z {w = w32} (record { sfits = c.signed_from.type_inv }) ∙ c.signed_from.ensures ∙ ap (signed 4371953) (number (goal.at.returns c).After-number-n)))
