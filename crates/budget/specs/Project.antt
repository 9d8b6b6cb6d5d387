-- A change, added to the sum of those of one account.
use Rattle.std.specs.Prelude.{cond, ℤ, ◌+ℤ◌}
use Rattle.std.specs.Int.{w64}
use Rattle.integer.specs.Clamp.{clamp}
use Rattle.format.specs.declared.ChangeStatus.{ChangeStatus}
use Rattle.format.specs.Book.{BudgetChange}
use Rattle.model.specs.Budgets.{Account, is_change}

-- where it is of this account and has this status
abbrev pub added_to : Account → ChangeStatus → ℤ → BudgetChange → ℤ
added_to account status sum c = cond (is_change account status c) (clamp w64 (sum +ℤ c.amount)) sum
