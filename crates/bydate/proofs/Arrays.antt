-- Parts of arrays that are lent.
use Prim.Native.Nat.{ℕ, ◌*◌, ◌≤◌}
use mathlib.Core.Path.{◌≡◌, sym, ap}
use lib.ListN.{length, take, replicate, length-replicate}
use lib.Seq.{length-take-le}
use Rattle.bydate.specs.Sizes.{IsEmpty}

-- a part in front of an array of m, as long as it is asked
pub front_long : {A : Type 0} (m : ℕ) (x : A) (k : ℕ) → k ≤ m → k ≡ length (take k (replicate m x))
front_long m x k h = sym (length-take-le k (replicate m x) (rw (length-replicate m x) h))

-- an array of m numbers is an empty table of n dates
pub empty_table : (m : ℕ) {n : ℕ} → n * 2 ≤ m → IsEmpty n (replicate m 0)
empty_table m h = let long = length-replicate {A = ℕ} m 0 in record { room = rw long h; empty = sym (ap (λ (k : ℕ). replicate k 0) long) }
