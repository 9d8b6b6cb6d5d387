-- What the common way reads is what the readers read.
use Rattle.std.specs.Prelude.{None, Some, Err, Ok}
use Rattle.format.specs.declared.Reason.{Reason}
use Prim.Native.Nat.{ℕ, ◌+◌, ◌≤◌, ◌<◌}
use native.Mathlib.Omega.{arith}
use mathlib.Core.Path.{◌≡◌, refl}
use mathlib.Core.List.{List}
use borrow.Author.Tests.{lt-ltb, le-ltb}
use Rattle.std.proofs.Common.{Some}
use Rattle.format.specs.Number.{number_at, in_range}
use Rattle.format.specs.Reader.{here, place_of, found, number, ranged, optional}
use Rattle.format.specs.Field.{range, U}
use Rattle.format.specs.Codec.{field, O}
use Rattle.fields.specs.Common.{IsFew, Fits, IsMark}
use Rattle.fields.specs.declared.numbers.Few.{Few}
use Rattle.fields.proofs.Groups.{one_byte}
use Rattle.fields.proofs.Marks.{absent, present}
use Rattle.format.specs.declared.Reason.TheVariants.{OutOfRange}
use Rattle.format.specs.declared.Refusal.{Refusal}

-- a number that is in its range
in_range_lem :
    (s : List ℕ) (i v next low bound : ℕ) (reason : Reason) (place : ℕ) → Ok (v, next) ≡ number_at s i → low ≤ v → v < bound →
    (v, Ok next) ≡ ranged low bound reason place s (Ok i)
unfolding ranged found in_range
in_range_lem s i v next low bound reason place e l b = rw (← e, le-ltb _ _ l, lt-ltb _ _ b)

-- a number of few bytes
module _ (s : List ℕ) (i : ℕ) (n : Few) (r : IsFew s i (Some n)) where
  pub any_few : (n.value, Ok n.next) ≡ number s (Ok i)
  unfolding number found
  any_few = rw (← r)

  pub ranged_few : (low bound : ℕ) (reason : Reason) (place : ℕ) → Fits n low bound → (n.value, Ok n.next) ≡ ranged low bound reason place s (Ok i)
  ranged_few low bound reason place f = in_range_lem s i _ _ low bound reason place r f.least f.below

-- an O field whose mark is one byte
module _ (s : List ℕ) (i mark : ℕ) (e : IsMark s i mark) where
  mark_read : mark < 2 → (mark, Ok (i + 1)) ≡ (field (U 0 1)).read s (Ok i)
  unfolding field range here place_of
  mark_read l = in_range_lem s i mark (i + 1) 0 2 OutOfRange i (one_byte s i mark (omega (arith, e.inside)) e.byte (omega arith)) (omega arith) l

  module _ (low bound : ℕ) where
    pub absent_few : mark ≡ 0 → (None, Ok (i + 1)) ≡ (O (range low bound OutOfRange)).read s (Ok i)
    absent_few z = absent (range low bound OutOfRange) s (Ok i) (mark_read (omega arith)) z

    pub present_few : (n : Few) → mark ≡ 1 → IsFew s (i + 1) (Some n) → Fits n low bound → (Some n.value, Ok n.next) ≡ (O (range low bound OutOfRange)).read s (Ok i)
    unfolding range place_of
    present_few n z r f = present (range low bound OutOfRange) s (Ok i) (mark_read (omega arith)) (λ y. omega arith) (ranged_few s (i + 1) n r low bound OutOfRange i f)

-- a refused position stays refused
pub optional_refused : (s : List ℕ) (e : Refusal) (low bound : ℕ) → (None, Err e) ≡ (O (range low bound OutOfRange)).read s (Err e)
unfolding O optional ranged
optional_refused s e low bound = refl
