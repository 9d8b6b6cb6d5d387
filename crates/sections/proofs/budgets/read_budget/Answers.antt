-- `read_budget` meets its contract: what leads it, then its plan.
use Rattle.std.specs.Prelude.{None, Option}
use mathlib.Core.Path.{◌≡◌, ap, ◌∙◌}
use mathlib.Core.Bool.{Bool}
use mathlib.Core.List.{List}
use lib.IntN.{ℤ}
use lib.Signed.{mag}
use mir.Syntax.{w64}
use mir.Val.{to_z, of_z}
use Prim.Native.Nat.{ℕ, ◌^◌, ◌<◌}
use Rattle.format.specs.Reader.{both}
use Rattle.format.specs.Field.{index}
use Rattle.format.specs.Codec.{O, ◌then◌, ◌&◌, up_to, test}
use Rattle.format.specs.Format.{amount, is_new, budget}
use Rattle.fields.proofs.Signed.{kept}
use Rattle.records.proofs.Parts.{iso_read, head_read, test_known}
use Rattle.sections.specs.Sections.{budget_of}
use Rattle.sections.proofs.Lists.{list_read}
use Rattle.sections.proofs.budgets.read_budget.Goals as goal
use Rattle.format.specs.Position.{Pos}
use Rattle.format.specs.declared.Reason.TheVariants.{OutOfOrder}

-- the test, made before what it tests is at hand
head_same :
    (n : ℕ) (before : List (Option ℕ)) (new : Bool) (s : List ℕ) (p : Pos) → new ≡ is_new before ((O (index n)).read s p).0 →
    (test None (λ a. new) OutOfOrder (O (index n)) & amount).read s p ≡ (test None (is_new before) OutOfOrder (O (index n)) & amount).read s p
unfolding ◌&◌ ◌then◌ both
head_same n before new s p e =
    ap (λ (a : Option ℕ × Pos). ((a.0, (amount.read s a.1).0), (amount.read s a.1).1)) (test_known None (is_new before) OutOfOrder (O (index n)) s p e)

-- a signed number, as a struct holds it
held : {x : Option ℕ} {z : ℤ} {end : Pos} {v : (Option ℕ × ℤ) × Pos} → ((x, z), end) ≡ v → mag z < 2 ^ 63 → ((x, to_z w64 (of_z w64 z)), end) ≡ v
held {z} p h = rw (kept z h) p

pub returns : goal.returns
unfolding budget_of budget up_to ◌&◌
returns c =
    λ before e.
    iso_read _ _ _ _ _ _ _
    (head_read _ _ _ _ _ (held (c.read_budget_head-head.ensures ∙ head_same _ before _ _ _ e) c.struct_told-1.given.1.0.1) (list_read c.read_amounts-plan.ensures))
