-- One row with the differences of the minutes and of the costs.
use Prim.Native.Nat.{ℕ, suc, ◌+◌, ◌*◌, ◌≤◌}
use native.Mathlib.Omega.{arith}
use mathlib.Core.Path.{◌≡◌, refl, sym, ap, ap₂, ◌∙◌}
use mathlib.Core.Bool.{Bool, cond}
use mathlib.Core.List.{List, [], ◌∷◌}
use lib.IntN.{ℤ}
use lib.ListN.{length, get_or, set}
use lib.Seq.{sets}
use borrow.Author.Tests.{lt-ltb, le-ltb}
use Rattle.money.specs.Words.{bits}
use Rattle.tree.specs.Figures.{figure_of}
use Rattle.activities.specs.Schedule.{entry_at}
use Rattle.variances.specs.Changed.{row_of, RowChanged}
use Rattle.variances.specs.Completion.{duration_by, cost_by, settled}
use Rattle.variances.proofs.Changing.{row_at, sets_row, no_row}
use Rattle.variances.proofs.Dating.{mark_at}

module _ (schedule : List ℕ) (costs : List ℤ) (out : List ℕ) (i : ℕ) where
  row : List ℕ
  row = row_of 5 out i

  minutes : ℕ
  minutes = bits (duration_by (get_or (row_of 5 out i) 3 0) (entry_at schedule i 9))

  amount : ℕ
  amount = bits (cost_by (get_or (row_of 5 out i) 4 0) (figure_of costs (i * 3 + 1)) (figure_of costs (i * 3 + 2)))

  -- with a line
  pub row_settled :
      {after : List ℕ} {x y : ℕ} → i * 5 + 5 ≤ length out → (get_or out (i * 5) 0 ≡ 0 → ⊥) →
      x ≡ bits (duration_by (get_or out (i * 5 + 3) 0) (entry_at schedule i 9)) → y ≡ bits (cost_by (get_or out (i * 5 + 4) 0) (figure_of costs (i * 3 + 1)) (figure_of costs (i * 3 + 2))) →
      after ≡ set (set out (i * 5 + 3) x) (i * 5 + 4) y → RowChanged 5 i (settled schedule costs i) out after
  unfolding row minutes amount
  row_settled {x = x} {y = y} room marked e f g =
      let next : i * 5 + 4 ≡ suc (i * 5 + 3) = omega arith in
      let first : x ≡ minutes = e ∙ ap (λ (m : ℕ). bits (duration_by m (entry_at schedule i 9))) (sym (row_at 5 out i 3 (omega arith))) in
      let second : y ≡ amount = f ∙ ap (λ (u : ℕ). bits (cost_by u (figure_of costs (i * 3 + 1)) (figure_of costs (i * 3 + 2)))) (sym (row_at 5 out i 4 (omega arith))) in
      sets_row 3 (x ∷ y ∷ []) (omega arith) room (g ∙ ap (λ (k : ℕ). set (set out (i * 5 + 3) x) k y) next)
      (ap₂ (λ (x y : ℕ). sets row 3 (x ∷ y ∷ [])) first second
      ∙ sym (ap (λ (b : Bool). cond b (sets row 3 (minutes ∷ amount ∷ [])) row) (lt-ltb 0 (get_or row 0 0) (omega (arith, mark_at out i, marked)))))

  -- without one
  pub row_unlined : get_or out (i * 5) 0 ≡ 0 → RowChanged 5 i (settled schedule costs i) out out
  unfolding row minutes amount
  row_unlined e = no_row refl (sym (ap (λ (b : Bool). cond b (sets row 3 (minutes ∷ amount ∷ [])) row) (le-ltb 0 (get_or row 0 0) (omega (arith, mark_at out i)))))
