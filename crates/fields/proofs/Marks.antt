-- What is read behind the mark of an O field: nothing after 0, its value after 1.
use Rattle.std.specs.Prelude.{None, Some}
use Prim.Native.Nat.{ℕ}
use mathlib.Core.Path.{◌≡◌}
use mathlib.Core.List.{List}
use borrow.Author.Tests.{eq-eqb, ne_eqb}
use Rattle.format.specs.Reader.{place_of, here, optional}
use Rattle.format.specs.Field.{Kind, range, U}
use Rattle.format.specs.Codec.{field, O}
use Rattle.format.specs.Position.{Pos}

module _
    {A : Type 0} (k : Kind A) (s : List ℕ) (c : Pos) {after : Pos} {mark : ℕ} (m : (mark, after) ≡ (field (U 0 1)).read s c)
  where
    pub absent : mark ≡ 0 → (None, after) ≡ (O k).read s c
    unfolding O optional field range here
    absent z = rw (← m, eq-eqb _ _ z)

    pub present : {v : A} {end : Pos} → (mark ≡ 0 → ⊥) → (v, end) ≡ k.read (place_of c) s after → (Some v, end) ≡ (O k).read s c
    unfolding O optional field range here
    present z e = rw (← m, ne_eqb _ _ z, ← e)
