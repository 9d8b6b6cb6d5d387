-- `take_change` meets its contract: one figure.
use Prim.Native.Nat.{ℕ, ◌+◌, ◌*◌}
use mathlib.Core.Path.{◌≡◌, ◌∙◌, refl}
use mathlib.Core.List.{List}
use lib.IntN.{ℤ}
use mir.Syntax.{w64}
use denote.Enum.Declared.{tag_of}
use Rattle.format.specs.contracts.ChangeStatus.{the_type}
use Rattle.format.specs.declared.ChangeStatus.{ChangeStatus}
use Rattle.format.specs.declared.ChangeStatus.TheVariants.{Pending, Approved, NotApproved}
use Rattle.format.specs.Enumeration.{change_status_number}
use Rattle.integer.specs.Linear.{back}
use Rattle.records.specs.Decoded.{budget_change_of}
use Rattle.tree.specs.Figures.{add_at}
use Rattle.ledger.proofs.changes.take_change.Goals as goal

-- the figure that is changed, by what is equal
changed : (table : List ℤ) {k m i j : ℕ} {z a : ℤ} → k ≡ m → i ≡ j → z ≡ a → add_at z table (k * 6 + (2 + i)) ≡ add_at a table (m * 6 + (2 + j))
changed table e g h = rw (e, g, h)

numbered : (s : ChangeStatus) → tag_of the_type s ≡ change_status_number s
unfolding change_status_number
numbered Pending = refl
numbered Approved = refl
numbered NotApproved = refl

pub returns : goal.returns
unfolding budget_change_of
returns c =
    c.add_figure.ensures
    ∙ changed c.args.accounts.now c.account_number-k.ensures.0 (numbered c.args.change.status) (back w64 c.args.change.amount c.struct_told-1.given.1.0.1)
