-- `put_indices` meets its contract: an index behind the other.
use Rattle.std.specs.Prelude.{Option}
use Prim.Native.Nat.{ℕ}
use mathlib.Core.Path.{refl, ap₂, ◌∙◌}
use mathlib.Core.List.{List}
use lib.Seq.{sets}
use Rattle.rows.specs.Rows.{optional}
use Rattle.forecast.proofs.Put.{indices_put}
use borrow.Author.Rules.{rules}
use Rattle.forecast.proofs.put_indices.Goals as goal

abbrev put : ℕ → List ℕ → Option ℕ → List ℕ
put at out o = sets out at (optional o)

pub returns : goal.returns
returns c =
    c.put_optional-3.ensures
    ∙ ap₂ (put 7)
    (c.put_optional-2.ensures
    ∙ ap₂ (put 5)
    (c.put_optional.ensures ∙ ap₂ (put 3) refl c.index_bits.ensures)
    c.index_bits-2.ensures)
    c.index_bits-3.ensures
    ∙ indices_put c.args.x c.args.out.now
