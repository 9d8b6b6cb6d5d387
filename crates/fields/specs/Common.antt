-- The common way: numbers of few bytes.
use Rattle.std.specs.Prelude.{ℕ, Option, ◌+◌, ◌≤◌, ◌<◌, ◌≡◌, List, length, get_or, Ok}
use Rattle.std.specs.Option.{IfSome}
use Rattle.format.specs.Number.{number_at}
use Rattle.fields.specs.declared.numbers.Few.{Few}
use Rattle.fields.specs.declared.numbers.Ending.{Ending}

-- what was read, if anything, is the number that begins at `place`
abbrev pub IsFew : List ℕ → ℕ → Option Few → Type 0
IsFew s place r = IfSome r (λ n. Ok (n.value, n.next) ≡ number_at s place)

-- the number is from `low` to below `bound`
pub record Fits (n : Few) (low bound : ℕ) : Type 0 where
  pub least : low ≤ n.value
  pub below : n.value < bound

-- the byte at `place`, which two bytes follow
pub record IsMark (s : List ℕ) (place mark : ℕ) : Type 0 where
  pub inside : place + 2 < length s
  pub byte : mark ≡ get_or s place 0

-- the first byte of a number, which others follow
pub record Begun (s : List ℕ) (place first : ℕ) : Type 0 where
  pub inside : place + 3 < length s
  pub byte : first ≡ get_or s place 0
  pub more : 128 ≤ first

-- what was read is the number that begins at `place`, if its last byte may end it
abbrev pub IsEnding : List ℕ → ℕ → Ending → Type 0
IsEnding s place r = (r.last ≡ 0 → ⊥) → r.last < 128 → Ok (r.value, r.next) ≡ number_at s place
