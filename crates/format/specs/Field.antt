-- The kinds of field: U, S, D, index, minutes, count.
use Rattle.std.specs.Prelude.{ℕ, suc, ℤ}
use Rattle.format.specs.Number.{write_number}
use Rattle.format.specs.Bytes.{Bytes, number_bytes}
use Rattle.format.specs.Reader.{Reader, Writer, ranged}
use Rattle.format.specs.Sound.{Sound}
use Rattle.format.specs.Inverse.{Inverse, Range, ranged_inverse}
use Rattle.format.specs.Within.{WithinAt, ranged_within}
use Rattle.format.specs.Signed.{signed, write_signed, Sendable, signed_inverse, signed_bytes, signed_within}
use Rattle.format.specs.declared.Reason.{Reason}
use Rattle.format.specs.declared.Reason.TheVariants.{OutOfRange, CountOutOfRange}

-- a kind of field: how it is read, with the place at which its range is refused, how it is written, and which values are well-formed
pub record Kind (A : Type 0) : Type 1 where
  pub read : ℕ → Reader A
  pub write : Writer A
  pub ok : A → Type 0
  pub inverse : Sound → (place : ℕ) → Inverse (read place) write ok
  pub bytes : (a : A) → Bytes (write a)
  pub within : WithinAt read

-- a number from `low` to below `bound`; outside, the refusal `reason`
unfoldable pub range : ℕ → ℕ → Reason → Kind ℕ
range low bound reason =
    record {
      read = ranged low bound reason;
      write = write_number;
      ok = Range low bound;
      inverse = λ sound place. ranged_inverse low bound reason place sound;
      bytes = number_bytes;
      within = ranged_within low bound reason;
    }

-- U: a number, here from `low` to `most`, else refusal 4
abbrev pub U : ℕ → ℕ → Kind ℕ
U low most = range low (suc most) OutOfRange

-- D: the count of days from 1 January 1970, in the years 2000 to 2099
abbrev pub D : Kind ℕ
D = U 10957 47481

-- an index: below the count of what it names, else refusal 4
abbrev pub index : ℕ → Kind ℕ
index named = range 0 named OutOfRange

-- minutes: U up to 1,000,000,000
abbrev pub minutes : Kind ℕ
minutes = U 0 1000000000

-- the count that leads a list: from `low` to `most`, else refusal 5
abbrev pub count : ℕ → ℕ → Kind ℕ
count low most = range low (suc most) CountOutOfRange

-- S: a signed number; no range, as every number stands for one
unfoldable pub S : Kind ℤ
S =
    record {
      read = λ place. signed;
      write = write_signed;
      ok = Sendable;
      inverse = λ sound place. signed_inverse sound;
      bytes = signed_bytes;
      within = record { place = λ at s c l h. signed_within.place s c h };
    }
