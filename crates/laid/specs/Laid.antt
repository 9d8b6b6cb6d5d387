-- Amounts laid onto a table by date. It begins at the date `base`, and has two numbers for each date: 1 where something falls on it, and the sum, in two's complement.
use Rattle.std.specs.Prelude.{ℕ, ◌+◌, ◌*◌, ◌-◌, ◌≤◌, ◌<◌, ◌≡◌, List, ◌++◌, length, get_or}
use Rattle.money.specs.Words.{bits}
use Rattle.calendar.specs.Tables.{one}
use Rattle.lists.specs.Lists.{keep}
use Rattle.model.specs.Amounts.{Dated, is_dated, is_charged, saturated_sum}

abbrev pub mark_of : ℕ → List ℕ → ℕ → ℕ
mark_of base table date = get_or table ((date - base) * 2) 0

abbrev pub sum_of : ℕ → List ℕ → ℕ → ℕ
sum_of base table date = get_or table ((date - base) * 2 + 1) 0

-- each date of the table has its mark, and the sum of the amounts that fall on it
pub record Holds (base : ℕ) (xs : List Dated) (table : List ℕ) : Type 0 where
  pub mark : (d : ℕ) → base ≤ d → (d - base) * 2 + 1 < length table → mark_of base table d ≡ one (is_charged xs d)
  pub sum : (d : ℕ) → base ≤ d → (d - base) * 2 + 1 < length table → sum_of base table d ≡ bits (saturated_sum (keep (is_dated d) xs))

-- amounts laid onto the table, behind whatever was laid onto it before; those of dates that it does not have are left out
pub record Laid (base : ℕ) (ys : List Dated) (before after : List ℕ) : Type 0 where
  pub long : length after ≡ length before
  pub holds : (xs : List Dated) → Holds base xs before → Holds base (xs ++ ys) after
