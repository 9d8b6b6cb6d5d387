-- `dates::ymd` meets its contract.
-- Assumes nothing.
use Rattle.std.specs.Prelude.{Some}
use mathlib.Core.Path.{◌≡◌, ap, ◌∙◌}
use mathlib.Core.Bool.{true}
use native.Mathlib.Omega.{arith}
use lib.IntN.{ℤ}
use lib.Dec.{lit<}
use mir.Syntax.{w32}
use mir.Facts.{to_z-of_z}
use Rattle.gregorian.specs.declared.Civil.{Civil}
use Rattle.gregorian.specs.Calendar.{civil}
use Rattle.dates.specs.Date.{dated, is_day, day_count, date_of, ymd_of}
use Rattle.gregorian.proofs.Counts.{tested}
use Rattle.dates.proofs.Counts.{day_within, civil_within}
use Rattle.dates.proofs.ymd.Goals as goal
use Rattle.dates.proofs.ymd.Goals.{After-civil_of-x, After-count_day, Else-not-is_day}

-- what the calls answer
is_day_lem : (c : Else-not-is_day) → is_day c.args.days ≡ true
is_day_lem c = tested is_day c.ranges.days c.is_day.ensures c.if-not-is_day.false

count : (c : After-count_day) → c.count_day.result ≡ day_count c.args.days
count c = c.count_day.ensures ∙ ap day_count (to_z-of_z c.ranges.days)

pub returns-then-not-is_day : goal.returns-then-not-is_day
unfolding ymd_of
returns-then-not-is_day c = rw (tested is_day c.ranges.days c.is_day.ensures c.if-not-is_day.true)

pub count_day-requires : goal.count_day-requires
count_day-requires c = ap is_day (to_z-of_z c.ranges.days) ∙ is_day_lem (goal.at.count_day-requires c).Else-not-is_day

pub civil_of-x-requires : goal.civil_of-x-requires
civil_of-x-requires c = let w = day_within _ (is_day_lem (goal.at.civil_of-x-requires c).Else-not-is_day) in omega (arith, count (goal.at.civil_of-x-requires c).After-count_day, w.from, w.upto)

date : (c : After-civil_of-x) → c.civil_of-x.result ≡ civil (day_count c.args.days)
date c = c.civil_of-x.ensures ∙ ap civil (count c.before)

pub signed_from-requires : goal.signed_from-requires
signed_from-requires c =
    let w = day_within _ (is_day_lem (goal.at.signed_from-requires c).Else-not-is_day) in
    let b = civil_within _ w.from w.upto in
    let e = ap (λ (x : Civil). x.year) (date (goal.at.signed_from-requires c).After-civil_of-x) in
    (lit< tt, omega (arith, e, b.1))

pub returns : goal.returns
unfolding ymd_of
returns c =
    let x = c.civil_of-x.result in
    rw (is_day_lem (goal.at.returns c).Else-not-is_day)
    (ap (λ (y : ℤ). Some (dated y x.month x.day)) (to_z-of_z {w = w32} (record { sfits = c.signed_from.type_inv }) ∙ c.signed_from.ensures) ∙ ap (λ (x : Civil). Some (date_of x)) (date (goal.at.returns c).After-civil_of-x))
