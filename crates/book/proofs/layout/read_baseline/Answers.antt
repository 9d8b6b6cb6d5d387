-- `read_baseline` meets its contract: its mark, and its lines where the mark is 1.
use Rattle.std.specs.Prelude.{None, Some}
use mathlib.Core.Path.{◌≡◌, refl}
use mathlib.Core.Bool.{true, false}
use mathlib.Core.List.{List}
use Prim.Native.Nat.{ℕ}
use lib.Dec.{eqb}
use borrow.Author.Tests.{eq-eqb, ne_eqb}
use Rattle.format.specs.Reader.{given, mapped, both}
use Rattle.format.specs.Field.{U}
use Rattle.format.specs.Codec.{Codec, field, marked, when, iso, ◌then◌}
use Rattle.book.specs.Layout.{lines_of}
use Rattle.sections.proofs.Lists.{up_to_read}
use Rattle.book.proofs.layout.read_baseline.Goals as goal
use Rattle.format.specs.Position.{Pos}

-- the mark, then what it says
marked_read :
    {A : Type 0} (c : Codec A) (s : List ℕ) (p : Pos) →
    (marked c).read s p ≡ (when (eqb ((field (U 0 1)).read s p).0 1) c).read s ((field (U 0 1)).read s p).1
unfolding marked iso ◌then◌ mapped both
marked_read c s p = refl

module _ {A : Type 0} (c : Codec A) (s : List ℕ) (p : Pos) {m : ℕ} {mid : Pos} (e : (m, mid) ≡ (field (U 0 1)).read s p) where
  there : eqb m 1 ≡ true → {v : A} {end : Pos} → (v, end) ≡ c.read s mid → (Some v, end) ≡ (marked c).read s p
  unfolding when given
  there t h = rw (marked_read c s p, ← e, t, ← h)

  absent : eqb m 1 ≡ false → (None, mid) ≡ (marked c).read s p
  unfolding when given
  absent t = rw (marked_read c s p, ← e, t)

pub returns-then-mark-eq1 : goal.returns-then-mark-eq1
unfolding lines_of
returns-then-mark-eq1 c =
    there _ _ _ c.field-mark.ensures (eq-eqb _ _ c.if-mark-eq1.true) (up_to_read c.read_elements-lines.ensures)

pub returns : goal.returns
unfolding lines_of
returns c = absent _ _ _ c.field-mark.ensures (ne_eqb _ _ c.if-mark-eq1.false)
