-- The length of a decoded list.
use Prim.Native.Nat.{ℕ, zero, suc}
use mathlib.Core.Path.{◌≡◌, refl, ap}
use mathlib.Core.List.{List}
use lib.ListN.{length}
use Rattle.format.specs.Reader.{many}
use Rattle.format.specs.Codec.{Codec, times}
use Rattle.format.specs.Position.{Pos}

-- a list has as many elements as its count says, refused or not
pub times_length :
    {X A : Type 0} (c : X → Codec A) (f : X → A → X) (s : List ℕ) (n : ℕ) (x : X) (p : Pos) →
    length ((times c f n x).read s p).0 ≡ n
unfolding times many
times_length c f s zero x p = refl
times_length c f s (suc n) x p = ap suc (times_length c f s n (f x ((c x).read s p).0) ((c x).read s p).1)
