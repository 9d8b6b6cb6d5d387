-- The stretch of dates that spans take.
use Rattle.std.specs.Prelude.{ℕ, zero, suc, ◌+◌, ◌≤◌, ◌<◌, min, max, cond, ltb}
use Rattle.format.specs.InRange.{IsDate}
use Rattle.spans.specs.declared.Stretch.{Stretch}

-- spans by index: each first date is none or a date of the book, and no last date is after the book's
pub record DatedSpans (first last : ℕ → ℕ) : Type 0 where
  pub begins : (i : ℕ) → 0 < first i → IsDate (first i)
  pub ends : (i : ℕ) → last i ≤ 47481

-- all spans that have days are within the stretch, which is of no dates where none has: then it ends on the day before it begins
pub record CoversSpans (first last : ℕ → ℕ) (r : Stretch) : Type 0 where
  pub least : 10957 ≤ r.from
  pub most : r.to ≤ 47481
  pub ahead : r.from ≤ r.to + 1
  pub begins : (i : ℕ) → 0 < first i → r.from ≤ first i
  pub starts : (i : ℕ) → 0 < first i → first i ≤ r.to
  pub ends : (i : ℕ) → 0 < first i → last i ≤ r.to

-- a stretch that takes a span too
unfoldable pub widened : Stretch → ℕ → ℕ → Stretch
widened known zero last = known
widened known (suc first) last = record { from = min known.from (suc first); to = max known.to (max (suc first) last) }

-- the stretch once all spans are taken: of no dates where none had any
unfoldable pub closed : Stretch → Stretch
closed known = cond (ltb known.to known.from) record { from = 10957; to = 10956 } known
