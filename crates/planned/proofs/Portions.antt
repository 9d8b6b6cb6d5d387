-- What of an amount over days is planned by a date: what those up to it get, by their number and that of all.
use Prim.Native.Nat.{ℕ, ◌+◌, ◌-◌, ◌≤◌, ◌<◌}
use mathlib.Core.Path.{◌≡◌, sym, ap, ap₂, ◌∙◌}
use mathlib.Core.List.{List}
use native.Mathlib.Omega.{arith}
use lib.IntN.{ℤ, pos, nat_abs}
use lib.ListN.{length}
use mir.Syntax.{w64}
use mir.Val.{SFits}
use Rattle.integer.specs.Signs.{like}
use Rattle.integer.specs.Sums.{ints, sum}
use Rattle.money.specs.Shares.{share_of}
use Rattle.money.proofs.Spread.{parts, parts_le, sum_like}
use Rattle.format.specs.InRange.{Rising}
use Rattle.model.specs.declared.DayWalk.{DayWalk}
use Rattle.model.specs.Days.{dates_between}
use Rattle.model.specs.Walk.{count_up_to}
use Rattle.model.proofs.Rising.{keep_rises}
use Rattle.model.proofs.Days.{alone_rises}
use Rattle.model.proofs.Planned.{spread_up_to, count_less}
use Rattle.laid.specs.Listed.{in_row, worked_between, listed_between}
use Rattle.laid.proofs.Dealing.{listed_some}
use Rattle.planned.specs.Values.{planned_in, planned_by}
use Rattle.planned.specs.Walked.{walked_in}

-- ---- over rising days

module _ (date : ℕ) (amount : ℤ) (fits : SFits w64 amount) (days : List ℕ) (rise : Rising days) (some : 0 < length days) where
  planned_counted : planned_in date amount days ≡ sum ints (share_of amount (length days)) (count_up_to date days)
  unfolding planned_in
  planned_counted = spread_up_to date amount days rise fits some

  -- of nothing nothing
  pub planned_nought : amount ≡ pos 0 → planned_in date amount days ≡ pos 0
  planned_nought e =
      let n = length days in
      let k = count_up_to date days in
      let z : parts (nat_abs amount) n k ≡ 0 = omega (arith, ap nat_abs e, parts_le (nat_abs amount) n k some (count_less days date)) in
      planned_counted ∙ sum_like amount n k ∙ ap₂ like e z

-- ---- over a span, by what the walk counts

module _ (row base : ℕ) (days : List ℕ) (date first last : ℕ) where
  abbrev listed : List ℕ
  listed = listed_between row base days first last

  some : 0 < length listed
  some = listed_some first (worked_between row base days first last)

  rise : Rising listed
  unfolding dates_between
  rise = alone_rises first (worked_between row base days first last) (keep_rises (in_row row base days) first (last + 1 - first))

  module _ {walked : DayWalk} (w : walked ≡ walked_in row base days date first last) where
    -- a day is listed, and no more are up to the date than are listed
    pub walked_some : (0 < walked.listed) × (walked.up_to ≤ walked.listed)
    unfolding walked_in
    walked_some = rw w (some, count_less listed date)

    pub walked_planned : (amount : ℤ) → SFits w64 amount → sum ints (share_of amount walked.listed) walked.up_to ≡ planned_by row base days date first last amount
    unfolding walked_in planned_by
    walked_planned amount fits = rw w (sym (planned_counted date amount fits listed rise some))
