-- `easter` meets its contract.
-- Assumes nothing.
use borrow.Author.Rules.{rules}
use Prim.Native.Nat.{ℕ, ◌+◌, ◌-◌, ◌*◌, ◌/◌, ◌%◌, ◌^◌, ◌≤◌, ◌<◌}
use mathlib.Core.Path.{◌≡◌, ap, ◌∙◌}
use mathlib.Core.Bool.{true}
use native.Mathlib.Omega.{arith}
use lib.Dec.{lit<}
use lib.IntN.{ℤ}
use mir.Facts.{to_z-of_z}
use Rattle.gregorian.specs.Count.{counted}
use Rattle.gregorian.proofs.Counts.{tested, room}
use Rattle.dates.specs.Date.{is_year, from_ymd}
use Rattle.computus.specs.Easter.{easter_of}
use Rattle.computus.proofs.Meeus.{meeus, meeus_is, easter_year}
use Rattle.computus.proofs.easter.Goals as goal
use Rattle.computus.proofs.easter.Goals.{Else-not-is_year}

is_year_lem : (c : Else-not-is_year) → is_year c.args.year ≡ true
is_year_lem c = tested is_year c.ranges.year c.is_year.ensures c.if-not-is_year.false

pub returns-then-not-is_year : goal.returns-then-not-is_year
unfolding easter_of
returns-then-not-is_year c = rw (tested is_year c.ranges.year c.is_year.ensures c.if-not-is_year.true)

pub counted_from-y-requires : goal.counted_from-y-requires
counted_from-y-requires c =
    rw (to_z-of_z c.ranges.year) (room 5700000 5690001 5709999 _ (lit< tt) (lit< tt) (easter_year _ (is_year_lem (goal.at.counted_from-y-requires c).Else-not-is_year)))

pub overflow_sub-l-2 : goal.overflow_sub-l-2
overflow_sub-l-2 c =
    enough _ _ _ _
  where
    enough : (x e i y : ℕ) → y % 4 ≤ 32 + 2 * e + 2 * i - x % 30
    enough x e i y = omega arith

pub overflow_add-q-2 : goal.overflow_add-q-2
overflow_add-q-2 c =
    record { fits = small _ _ _ _ (lit< tt) }
  where
    small : (x y z k : ℕ) → k < 1000 → x % 30 + y % 7 - z + k < 2 ^ 32
    small x y z k h = omega (arith, h)

pub returns : goal.returns
returns c =
    let z = c.args.year in
    let f = to_z-of_z c.ranges.year in
    c.from_ymd.ensures ∙ ap (λ (v : ℤ). from_ymd v (meeus c.counted_from-y.result / 31) (meeus c.counted_from-y.result % 31 + 1)) f
    ∙ ap (λ (y : ℕ). from_ymd z (meeus y / 31) (meeus y % 31 + 1)) (c.counted_from-y.ensures ∙ ap (counted 5700000) f)
    ∙ meeus_is z (is_year_lem (goal.at.returns c).Else-not-is_year)
