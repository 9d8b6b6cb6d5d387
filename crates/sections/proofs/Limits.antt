-- What is read of a range is below its bound, refused or not: it then reads as 0.
use Rattle.std.specs.Prelude.{Err, Ok}
use Rattle.format.specs.declared.Reason.{Reason}
use Prim.Native.Nat.{ℕ, suc, ◌≤◌, ◌<◌}
use native.Mathlib.Omega.{arith}
use mathlib.Core.Path.{◌≡◌, refl}
use mathlib.Core.Bool.{Bool, true, false, cond}
use mathlib.Core.List.{List}
use lib.Dec.{ltb}
use borrow.Author.Tests.{ltb-true}
use Rattle.format.specs.Number.{number_at, in_range}
use Rattle.format.specs.Reader.{place_of, found, ranged, here}
use Rattle.format.specs.Field.{range, count}
use Rattle.format.specs.Codec.{field}
use Rattle.format.specs.Position.{Num, Pos, refused}
use Rattle.format.specs.declared.Reason.TheVariants.{CountOutOfRange}

module _ (low bound : ℕ) (reason : Reason) (place : ℕ) {most : ℕ} (h : bound ≤ most) (some : 0 < most) where
  found_below : (x : Num) → (found (in_range low bound reason place x)).0 < most
  unfolding found in_range
  found_below (Err e) = some
  found_below (Ok (v, q)) = go (ltb v low) (ltb v bound) refl
    where
      go : (a b : Bool) → ltb v bound ≡ b → (found (cond a (refused reason place) (cond b (Ok (v, q)) (refused reason place)))).0 < most
      go true b e = some
      go false true e = omega (arith, ltb-true v bound e)
      go false false e = some

  pub ranged_below : (s : List ℕ) (p : Pos) → (ranged low bound reason place s p).0 < most
  unfolding ranged
  ranged_below s (Ok i) = found_below (number_at s i)
  ranged_below s (Err e) = some

-- a count is at most its limit
pub count_most : (low most : ℕ) (s : List ℕ) (p : Pos) → ((field (count low most)).read s p).0 ≤ most
unfolding field range here
count_most low most s p = omega (arith, ranged_below low (suc most) CountOutOfRange (place_of p) {most = suc most} (omega arith) (omega arith) s p)
