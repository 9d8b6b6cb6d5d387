-- Parts of arrays that are lent. Assumes nothing.
use Prim.Native.Nat.{ℕ, ◌≤◌}
use mathlib.Core.Path.{◌≡◌}
use lib.ListN.{length, take, replicate, length-replicate}
use lib.Seq.{length-take-le}

-- the front of an array of m
pub front_long : {A : Type 0} (m : ℕ) (x : A) (k : ℕ) → k ≤ m → length (take k (replicate m x)) ≡ k
front_long m x k h = length-take-le k (replicate m x) (rw (length-replicate m x) h)
