-- `holidays::holiday_in` meets its contract.
-- Assumes nothing.
use Rattle.std.specs.Prelude.{Option, None}
use Prim.Native.Nat.{ℕ, ◌+◌, ◌-◌}
use mathlib.Core.Path.{◌≡◌, sym, ap, ◌∙◌}
use native.Mathlib.Omega.{arith}
use lib.IntN.{ℤ, pos}
use lib.ListN.{get_or}
use mir.Facts.{to_z-of_z}
use Rattle.holidays.specs.Holiday.{on, fixed_days, distances}
use Rattle.holidays.specs.Year.{day_in, awareness_in, moved, holidays_in}
use Rattle.computus.proofs.Meeus.{easter_day}
use Rattle.holidays.proofs.Years.{fixed_at, awareness_at, movable_at}
use Rattle.holidays.proofs.holiday_in.Goals as goal

pub returns-then-k-lt8 : goal.returns-then-k-lt8
returns-then-k-lt8 c =
    c.from_ymd.ensures ∙ ap (λ (v : ℤ). day_in v (get_or fixed_days c.args.k (on 0 0))) (to_z-of_z c.ranges.year) ∙ sym (fixed_at c.args.year c.args.k c.if-k-lt8.true)

pub returns-then-k-eq8 : goal.returns-then-k-eq8
returns-then-k-eq8 c =
    c.awareness_in.ensures ∙ ap awareness_in (to_z-of_z c.ranges.year) ∙ sym (ap (λ (k : ℕ). get_or (holidays_in c.args.year) k None) c.if-k-eq8.true ∙ awareness_at c.args.year)

pub moved_from-requires : goal.moved_from-requires
moved_from-requires c =
    (omega arith, λ e q. easter_day c.args.year e (sym c.requires.0 ∙ q))

pub returns : goal.returns
returns c =
    let y = c.args.year in
    let k = c.args.k in
    let e : k - 9 + 9 ≡ k = omega arith in
    c.moved_from.ensures ∙ ap (λ (t : Option ℤ). moved t (get_or distances (k - 9) (pos 0))) c.requires.0 ∙ sym (movable_at y (k - 9) (omega arith)) ∙ ap (λ (n : ℕ). get_or (holidays_in y) n None) e
