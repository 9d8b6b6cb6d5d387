-- How large tables by date are.
use Rattle.std.specs.Prelude.{ℕ, ◌+◌, ◌*◌, ◌-◌, ◌≤◌, ◌≡◌, List, length, replicate}
use Rattle.spans.specs.declared.Stretch.{Stretch}

-- the dates of a stretch
abbrev pub dates_of : Stretch → ℕ
dates_of known = known.to + 1 - known.from

-- tables of 2048 dates and 8192 days are large enough
pub record FitsSmall (calendars : ℕ) (known : Stretch) : Type 0 where
  pub dates : dates_of known ≤ 2048
  pub days : calendars * dates_of known ≤ 8192

-- a table by date that nothing is laid onto yet, with room for n dates
pub record IsEmpty (n : ℕ) (table : List ℕ) : Type 0 where
  pub room : n * 2 ≤ length table
  pub empty : table ≡ replicate (length table) 0
