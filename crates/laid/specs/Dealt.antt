-- Amounts of days that are counted from a first one on.
use Rattle.std.specs.Prelude.{ℕ, suc, ◌%◌, cond, List, [], ◌∷◌, ltb, ℤ, nat_abs}
use Rattle.money.specs.Shares.{share_of}
use Rattle.model.specs.Amounts.{Dated, on}
use Rattle.laid.specs.declared.deal.Deal.{Deal}

-- on each date the amount of its day: the first date is day k
unfoldable pub dealt : (ℕ → ℕ → ℤ) → ℕ → List ℕ → List Dated
dealt amount k [] = []
dealt amount k (d ∷ dates) = on d (amount d k) ∷ dealt amount (suc k) dates

-- the amount of day k
abbrev pub of_deal : Deal → ℕ → ℤ
of_deal deal k = cond (ltb k deal.left) deal.early deal.late

-- the shares of an amount over n days
abbrev pub deal_of : ℤ → ℕ → Deal
deal_of z n = record { left = nat_abs z % n; early = share_of z n 0; late = share_of z n (nat_abs z % n) }
