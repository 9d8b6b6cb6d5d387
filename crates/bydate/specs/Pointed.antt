-- The points of a table by date: the dates that are marked, each with its sum.
use Rattle.std.specs.Prelude.{ℕ, ◌+◌, ◌*◌, ◌-◌, ◌≤◌, ◌<◌, Bool, cond, List, [], ◌∷◌, map, eqb, length}
use Rattle.money.specs.Words.{of_bits}
use Rattle.lists.specs.Lists.{keep}
use Rattle.model.specs.Days.{dates_between}
use Rattle.model.specs.Amounts.{Dated, on}
use Rattle.laid.specs.Laid.{mark_of, sum_of}

abbrev pub is_marked : ℕ → List ℕ → ℕ → Bool
is_marked base table date = eqb (mark_of base table date) 1

abbrev pub sum_on : ℕ → List ℕ → ℕ → Dated
sum_on base table date = on date (of_bits (sum_of base table date))

-- those between two dates
unfoldable pub points_in : ℕ → List ℕ → ℕ → ℕ → List Dated
points_in base table from to = map (sum_on base table) (keep (is_marked base table) (dates_between from to))

-- the table has each date between two
pub record Reaches (base : ℕ) (table : List ℕ) (from to : ℕ) : Type 0 where
  pub start : base ≤ from
  pub reach : (to - base) * 2 + 1 < length table
  pub latest : to ≤ 47481

-- the row of a date that is marked; else nothing
abbrev pub row_if : Bool → ℕ → ℕ → List ℕ
row_if marked date sum = cond marked (date ∷ sum ∷ []) []
