-- The figures of the periods: of each whether a record of it is stored, the earned value to date and the actual cost to date.
use Rattle.std.specs.Prelude.{ℕ, zero, suc, ◌≡◌, cond, List, eqb, leb, ℤ, pos, ◌+ℤ◌, get_or}
use Rattle.std.specs.Int.{w64}
use Rattle.integer.specs.Clamp.{clamp}
use Rattle.format.specs.Book.{PeriodRecord}
use Rattle.model.specs.Periods.{actual_in}
use Rattle.todate.specs.declared.Entry.{Entry}

-- what a record adds
pub record IsEntry (r : PeriodRecord) (e : Entry) : Type 0 where
  pub period : e.period ≡ r.period
  pub earned : e.earned ≡ r.earned
  pub actual : e.actual ≡ actual_in r

-- figure j of a period that closes at `finish`, with an entry of one that closes at `close`
abbrev pub closing : ℕ → ℤ → ℤ → ℕ → ℕ → ℤ → ℤ
closing close earned actual finish zero z = z
closing close earned actual finish (suc zero) z = cond (leb close finish) (clamp w64 (z +ℤ earned)) z
closing close earned actual finish (suc (suc j)) z = cond (leb close finish) (clamp w64 (z +ℤ actual)) z

-- figure j of period p, with an entry of a period
abbrev pub entered : List ℕ → ℕ → ℤ → ℤ → ℕ → ℕ → ℤ → ℤ
entered finishes period earned actual p zero z = cond (eqb period p) (pos 1) z
entered finishes period earned actual p (suc zero) z = cond (leb (get_or finishes period 0) (get_or finishes p 0)) (clamp w64 (z +ℤ earned)) z
entered finishes period earned actual p (suc (suc j)) z = cond (leb (get_or finishes period 0) (get_or finishes p 0)) (clamp w64 (z +ℤ actual)) z
