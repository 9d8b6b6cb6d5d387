-- Planned value put beside the figures that no date changes.
use Prim.Native.Nat.{ℕ, zero, suc, ◌+◌, ◌*◌, ◌≤◌, ◌<◌}
use native.Mathlib.Omega.{arith}
use native.Mathlib.Decide.{ℕ_discrete}
use mathlib.Core.Path.{◌≡◌, refl, ap, sym, ◌∙◌}
use mathlib.Core.Bool.{Bool, true, false, cond}
use mathlib.Core.List.{List, [], ◌∷◌}
use lib.IntN.{ℤ, pos}
use lib.ListN.{length, get_or, set, length-set}
use lib.Seq.{get_or-set_same, get_or-set_other}
use Rattle.format.specs.Book.{Book}
use Rattle.model.specs.Tree.{parents, is_leaf}
use Rattle.model.specs.Earned.{no_earned, leaf_earned, own_earned}
use Rattle.tree.specs.Tables.{earned_figures, own_values}
use Rattle.flat.proofs.Spans.{rows_length, rows_at, rows_cells}
use Rattle.model.proofs.Tree.{parents_count}
use Rattle.earned.specs.Measured.{measured_row, measured_of, Measured}

pub measured_are : (b : Book) {own : List ℤ} → own ≡ measured_of b → Measured b own
unfolding measured_of measured_row
measured_are b e =
    record {
      long = ap length e ∙ rows_length 5 (measured_row b) (λ i. refl) (length (parents b)) ∙ ap (λ (k : ℕ). k * 5) (parents_count b);
      at = λ i j h l n. ap (λ (t : List ℤ). get_or t (i * 5 + j) (pos 0)) e ∙ rows_at 5 (measured_row b) (λ k. refl) (length (parents b)) i j (pos 0) (omega (arith, parents_count b)) l;
    }

-- a figure that no date changes
undated : (b : Book) (date i j : ℕ) → (j ≡ 1 → ⊥) → get_or (measured_row b i) j (pos 0) ≡ get_or (earned_figures (own_earned b date i)) j (pos 0)
unfolding measured_row own_earned leaf_earned
undated b date i j n = go (is_leaf (parents b) i) j n
  where
    go :
        (leaf : Bool) (j : ℕ) → (j ≡ 1 → ⊥) → let e = leaf_earned b date i in
        get_or (cond leaf e.budget (pos 0) ∷ pos 0 ∷ cond leaf e.earned (pos 0) ∷ cond leaf e.actual (pos 0) ∷ cond leaf e.remaining (pos 0) ∷ []) j (pos 0)
        ≡ get_or (earned_figures (cond leaf e no_earned)) j (pos 0)
    go leaf (suc zero) n = absurd (n refl)
    go true zero n = refl
    go true (suc (suc zero)) n = refl
    go true (suc (suc (suc zero))) n = refl
    go true (suc (suc (suc (suc zero)))) n = refl
    go true (suc (suc (suc (suc (suc j))))) n = refl
    go false zero n = refl
    go false (suc (suc zero)) n = refl
    go false (suc (suc (suc zero))) n = refl
    go false (suc (suc (suc (suc zero)))) n = refl
    go false (suc (suc (suc (suc (suc j))))) n = refl

-- ---- the loop

-- the planned value of the first i rows is put, and no other figure has changed
pub record Putting (planned : ℕ → ℤ) (before : List ℤ) (i : ℕ) (out : List ℤ) : Type 0 where
  pub long : length out ≡ length before
  pub done : (k : ℕ) → k < i → get_or out (k * 5 + 1) (pos 0) ≡ planned k
  pub kept : (k j : ℕ) → j < 5 → (j ≡ 1 → ⊥) → get_or out (k * 5 + j) (pos 0) ≡ get_or before (k * 5 + j) (pos 0)

pub putting_none : (planned : ℕ → ℤ) (out : List ℤ) → Putting planned out 0 out
putting_none planned out = record { long = refl; done = λ k h. absurd (omega arith); kept = λ k j h n. refl }

module _ {planned : ℕ → ℤ} {before : List ℤ} {i : ℕ} {out : List ℤ} (w : Putting planned before i out) where
  pub putting_more : i * 5 + 1 < length before → (z : ℤ) → z ≡ planned i → Putting planned before (i + 1) (set out (i * 5 + 1) z)
  putting_more h z e =
      record {
        long = length-set out (i * 5 + 1) z ∙ w.long;
        done = λ k l. go k l (ℕ_discrete k i);
        kept = λ k j l n. get_or-set_other out (i * 5 + 1) (k * 5 + j) z (pos 0) (λ s. n (omega arith)) ∙ w.kept k j l n;
      }
    where
      go : (k : ℕ) → k < i + 1 → Dec (k ≡ i) → get_or (set out (i * 5 + 1) z) (k * 5 + 1) (pos 0) ≡ planned k
      go k l (yes s) = rw s (get_or-set_same out (i * 5 + 1) z (pos 0) (omega (arith, w.long)) ∙ e)
      go k l (no s) = get_or-set_other out (i * 5 + 1) (k * 5 + 1) z (pos 0) (λ q. s (omega arith)) ∙ w.done k (omega arith)

  pub putting_end :
      (b : Book) (date : ℕ) → Measured b before → ((k : ℕ) → k < length b.activities → planned k ≡ (own_earned b date k).planned) → length b.activities ≤ i → out ≡ own_values b date
  unfolding own_values
  putting_end b date m p h =
      rows_cells 5 (λ k. earned_figures (own_earned b date k)) (λ k. refl) (length (parents b)) (pos 0) out (w.long ∙ m.long ∙ sym (ap (λ (k : ℕ). k * 5) (parents_count b)))
      (λ k j l s. cell k j (omega (arith, parents_count b)) s (ℕ_discrete j 1))
    where
      cell : (k j : ℕ) → k < length b.activities → j < 5 → Dec (j ≡ 1) → get_or out (k * 5 + j) (pos 0) ≡ get_or (earned_figures (own_earned b date k)) j (pos 0)
      cell k j l s (yes e) = rw e (w.done k (omega arith) ∙ p k l)
      cell k j l s (no e) = w.kept k j s e ∙ m.at k j l s e ∙ undated b date k j e
