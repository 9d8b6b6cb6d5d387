-- Changes of tables of figures: one after the other, one figure, calendar by calendar.
use Prim.Native.Nat.{ℕ, ◌+◌, ◌*◌, ◌≤◌, ◌<◌}
use native.Mathlib.Nat.{mul-le-mul_right}
use native.Mathlib.Decide.{dec_lt}
use native.Mathlib.Omega.{arith}
use mathlib.Core.Path.{◌≡◌, refl, sym, ap, ◌∙◌}
use mathlib.Core.Bool.{Bool, true, false, cond}
use mathlib.Core.Logic.{⊎_elim}
use mathlib.Core.List.{List}
use lib.Dec.{eqb, ltb}
use lib.IntN.{ℤ, pos}
use lib.ListN.{length, get_or, set, length-set}
use lib.Seq.{get_or-set_same, get_or-set_other}
use borrow.Author.Tests.{eqb-true, eqb-false, ltb-true, ltb-false, lt-ltb, le-ltb}
use Rattle.flat.proofs.Cells.{cell_apart}
use Rattle.calendar.specs.Changes.{Changed, of_calendar, of_first, of_row, of_figure}

-- a cell that is inside a table of n rows is in one of them
pub row_below : (width i j n : ℕ) → i * width + j < n * width → i < n
row_below width i j n h = go (dec_lt i n)
  where
    go : Dec (i < n) → i < n
    go (yes l) = l
    go (no l) = let m : n * width ≤ i * width = mul-le-mul_right width (omega arith) in absurd (omega arith)

module _ {width : ℕ} where
  -- nothing is changed
  pub changed_none : (t : List ℤ) → Changed width (λ i j z. z) t t
  changed_none t = record { long = refl; at = λ i j l h. refl }

  module _ {g : ℕ → ℕ → ℤ → ℤ} {t u : List ℤ} (c : Changed width g t u) where
    -- one change after another
    pub changed_then : {h : ℕ → ℕ → ℤ → ℤ} {v : List ℤ} → Changed width h u v → Changed width (λ i j z. h i j (g i j z)) t v
    changed_then {h} d =
        record {
          long = d.long ∙ c.long;
          at = λ i j l k. d.at i j l (omega (arith, c.long)) ∙ ap (h i j) (c.at i j l k);
        }

    -- the same, said otherwise
    pub changed_same :
        (h : ℕ → ℕ → ℤ → ℤ) →
        ((i j : ℕ) → j < width → i * width + j < length t → g i j (get_or t (i * width + j) (pos 0)) ≡ h i j (get_or t (i * width + j) (pos 0))) →
        Changed width h t u
    changed_same h e = record { long = c.long; at = λ i j l k. c.at i j l k ∙ e i j l k }

  -- one figure of one row
  pub changed_figure :
      (a c : ℕ) (f : ℤ → ℤ) (t : List ℤ) (v : ℤ) → c < width → a * width + c < length t → v ≡ f (get_or t (a * width + c) (pos 0)) →
      Changed width (of_row a (of_figure c f)) t (set t (a * width + c) v)
  changed_figure a c f t v low inside is =
      record { long = length-set t (a * width + c) v; at = λ i j l h. row i j l h (eqb a i) refl }
    where
      figure : (j : ℕ) (b : Bool) → eqb c j ≡ b → get_or (set t (a * width + c) v) (a * width + j) (pos 0) ≡ cond b (f (get_or t (a * width + j) (pos 0))) (get_or t (a * width + j) (pos 0))
      figure j true q =
          let e : c ≡ j = eqb-true c j q in
          rw (← e) (get_or-set_same t (a * width + c) v (pos 0) inside ∙ is)
      figure j false q = get_or-set_other t (a * width + c) (a * width + j) v (pos 0) (λ e. eqb-false c j q (omega arith))

      apart : (i j : ℕ) → j < width → (i ≡ a → ⊥) → i * width + j ≡ a * width + c → ⊥
      apart i j l d e = ⊎_elim (λ before. omega arith) (λ behind. omega arith) (cell_apart i a l d)

      row :
          (i j : ℕ) → j < width → i * width + j < length t → (b : Bool) → eqb a i ≡ b →
          get_or (set t (a * width + c) v) (i * width + j) (pos 0) ≡ cond b (of_figure c f j (get_or t (i * width + j) (pos 0))) (get_or t (i * width + j) (pos 0))
      row i j l h true q = let e : a ≡ i = eqb-true a i q in rw (← e) (figure j (eqb c j) refl)
      row i j l h false q = get_or-set_other t (a * width + c) (i * width + j) v (pos 0) (apart i j l (λ e. eqb-false a i q (sym e)))

-- ---- calendar by calendar: each row has one

module _ {width : ℕ} (calendar : ℕ → ℕ) (g : ℕ → ℕ → ℤ → ℤ) where
  pub first_none : (t : List ℤ) → Changed width (of_first calendar 0 g) t t
  first_none t =
      changed_same (changed_none t) (of_first calendar 0 g)
      (λ i j l h. sym (ap (λ (b : Bool). cond b (g i j (get_or t (i * width + j) (pos 0))) (get_or t (i * width + j) (pos 0))) (le-ltb (calendar i) 0 (omega arith))))

  pub first_more : (k : ℕ) {t u v : List ℤ} → Changed width (of_first calendar k g) t u → Changed width (of_calendar calendar k g) u v → Changed width (of_first calendar (k + 1) g) t v
  first_more k c d = changed_same (changed_then c d) (of_first calendar (k + 1) g) (λ i j l h. pick (calendar i) (ltb (calendar i) k) (eqb (calendar i) k) refl refl (g i j) _)
    where
      pick : (n : ℕ) (a b : Bool) → ltb n k ≡ a → eqb n k ≡ b → (f : ℤ → ℤ) (z : ℤ) → cond b (f (cond a (f z) z)) (cond a (f z) z) ≡ cond (ltb n (k + 1)) (f z) z
      pick n true true p q f z = absurd (omega (arith, ltb-true n k p, eqb-true n k q))
      pick n true false p q f z = sym (ap (λ (b : Bool). cond b (f z) z) (lt-ltb n (k + 1) (omega (arith, ltb-true n k p))))
      pick n false true p q f z = sym (ap (λ (b : Bool). cond b (f z) z) (lt-ltb n (k + 1) (omega (arith, eqb-true n k q))))
      pick n false false p q f z = sym (ap (λ (b : Bool). cond b (f z) z) (le-ltb n (k + 1) (omega (arith, ltb-false n k p, eqb-false n k q))))

  -- where each row of a table has one of n calendars, all are changed
  pub first_all : (n : ℕ) {t u : List ℤ} → Changed width (of_first calendar n g) t u → (rows : ℕ) → length t ≡ rows * width → ((i : ℕ) → i < rows → calendar i < n) → Changed width g t u
  first_all n {t} c rows e named =
      changed_same c g
      (λ i j l h. ap (λ (b : Bool). cond b (g i j (get_or t (i * width + j) (pos 0))) (get_or t (i * width + j) (pos 0))) (lt-ltb (calendar i) n (named i (row_below width i j rows (omega arith)))))
