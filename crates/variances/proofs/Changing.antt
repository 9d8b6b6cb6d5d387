-- A flat table that is changed row by row, and what a loop that does so keeps. Assumes nothing.
use Prim.Native.Nat.{ℕ, suc, ◌+◌, ◌*◌, ◌≤◌, ◌<◌}
use native.Mathlib.Omega.{arith}
use native.Mathlib.Decide.{ℕ_discrete}
use mathlib.Core.Path.{◌≡◌, refl, sym, ap, ◌∙◌}
use mathlib.Core.Logic.{⊎_elim}
use mathlib.Core.Bool.{Bool, true, false, cond}
use mathlib.Core.List.{List, [], ◌∷◌, flat_map}
use lib.Dec.{eqb}
use lib.ListN.{length, get_or, set, length-map, length-set}
use lib.Seq.{sets, ext_get_or, get_or-set_same, get_or-set_other, length-sets}
use borrow.Author.Tests.{eq-eqb, ne_eqb}
use Rattle.flat.proofs.Cells.{row_inside, cell_apart}
use Rattle.flat.proofs.Tables.{flat_same}
use Rattle.lists.specs.Lists.{span}
use Rattle.lists.proofs.Spans.{made_at, span_in_lem, span_length}
use Rattle.flat.proofs.Spans.{rows_length, rows_at, rows_cells}
use Rattle.variances.specs.Changed.{row_of, changed, RowChanged}

module _ (width : ℕ) where
  -- ---- a row

  pub row_long : (t : List ℕ) (i : ℕ) → length (row_of width t i) ≡ width
  unfolding row_of
  row_long t i = length-map (span 0 width) _ ∙ span_length 0 width

  pub row_at : (t : List ℕ) (i j : ℕ) → j < width → get_or (row_of width t i) j 0 ≡ get_or t (i * width + j) 0
  unfolding row_of
  row_at t i j h = made_at (λ (k : ℕ). get_or t (i * width + k) 0) 0 width j h

  row_is : (t r : List ℕ) (i : ℕ) → length r ≡ width → ((j : ℕ) → j < width → get_or t (i * width + j) 0 ≡ get_or r j 0) → row_of width t i ≡ r
  row_is t r i l h = ext_get_or 0 (row_of width t i) r (row_long t i ∙ sym l) (λ j k. let m : j < width = omega (arith, row_long t i) in row_at t i j m ∙ h j m)

  -- one number set: its row changes, no other does
  row_set : (t : List ℕ) (v i j k : ℕ) → j < width → i * width + j < length t → row_of width (set t (i * width + j) v) k ≡ cond (eqb k i) (set (row_of width t k) j v) (row_of width t k)
  row_set t v i j k h room = go (ℕ_discrete k i)
    where
      at : ℕ
      at = i * width + j

      go : Dec (k ≡ i) → row_of width (set t at v) k ≡ cond (eqb k i) (set (row_of width t k) j v) (row_of width t k)
      go (yes e) = rw (e, eq-eqb i i refl) (row_is (set t at v) (set (row_of width t i) j v) i (length-set (row_of width t i) j v ∙ row_long t i) (λ m l. cell m l (ℕ_discrete m j)))
        where
          cell : (m : ℕ) → m < width → Dec (m ≡ j) → get_or (set t at v) (i * width + m) 0 ≡ get_or (set (row_of width t i) j v) m 0
          cell m l (yes s) = rw s (get_or-set_same t at v 0 room ∙ sym (get_or-set_same (row_of width t i) j v 0 (omega (arith, row_long t i))))
          cell m l (no s) = get_or-set_other t at (i * width + m) v 0 (λ q. s (omega arith)) ∙ sym (get_or-set_other (row_of width t i) j m v 0 s ∙ row_at t i m l)
      go (no e) =
          rw (ne_eqb k i e)
          (row_is (set t at v) (row_of width t k) k (row_long t k)
          (λ m l. get_or-set_other t at (k * width + m) v 0 (λ q. ⊎_elim (λ x. omega arith) (λ x. omega arith) (cell_apart {j = m} {width = width} k i l e)) ∙ sym (row_at t k m l)))

  -- some numbers set within a row
  pub row_sets :
      (t vs : List ℕ) (i j k : ℕ) → j + length vs ≤ width → i * width + width ≤ length t →
      row_of width (sets t (i * width + j) vs) k ≡ cond (eqb k i) (sets (row_of width t k) j vs) (row_of width t k)
  row_sets t [] i j k h room = go (eqb k i)
    where
      go : (b : Bool) → row_of width t k ≡ cond b (row_of width t k) (row_of width t k)
      go true = refl
      go false = refl
  row_sets t (v ∷ vs) i j k h room =
      let e : suc (i * width + j) ≡ i * width + suc j = omega arith in
      let u = set t (i * width + j) v in
      ap (λ (at : ℕ). row_of width (sets u at vs) k) e
      ∙ row_sets u vs i (suc j) k (omega arith) (omega (arith, length-set t (i * width + j) v))
      ∙ ap (λ (r : List ℕ). cond (eqb k i) (sets r (suc j) vs) r) (row_set t v i j k (omega arith) (omega arith))
      ∙ go (eqb k i)
    where
      go :
          (b : Bool) → cond b (sets (cond b (set (row_of width t k) j v) (row_of width t k)) (suc j) vs) (cond b (set (row_of width t k) j v) (row_of width t k))
          ≡ cond b (sets (row_of width t k) j (v ∷ vs)) (row_of width t k)
      go true = refl
      go false = refl

  -- ---- all rows

  module _ (n : ℕ) where
    -- a table is its rows
    pub rows_all : (t : List ℕ) → length t ≡ n * width → t ≡ flat_map (row_of width t) (span 0 n)
    rows_all t l = rows_cells width (row_of width t) (row_long t) n 0 t l (λ i j h k. sym (row_at t i j k))

    module _ (row : ℕ → List ℕ) (wide : (i : ℕ) → length (row i) ≡ width) where
      pub row_made : (i : ℕ) → i < n → row_of width (flat_map row (span 0 n)) i ≡ row i
      row_made i h = row_is (flat_map row (span 0 n)) (row i) i (wide i) (λ j l. rows_at width row wide n i j 0 h l)

      pub changed_made : (f : ℕ → List ℕ → List ℕ) → changed width f n (flat_map row (span 0 n)) ≡ flat_map (λ i. f i (row i)) (span 0 n)
      unfolding changed
      changed_made f =
          flat_same (λ i. f i (row_of width (flat_map row (span 0 n)) i)) (λ i. f i (row i)) (span 0 n)
          (λ i m. ap (f i) (row_made i (omega (arith, span_in_lem 0 n i m))))

    module _ (t : List ℕ) where
      pub changed_same : (f g : ℕ → List ℕ → List ℕ) → ((i : ℕ) → i < n → f i (row_of width t i) ≡ g i (row_of width t i)) → changed width f n t ≡ changed width g n t
      unfolding changed
      changed_same f g h = flat_same (λ i. f i (row_of width t i)) (λ i. g i (row_of width t i)) (span 0 n) (λ i m. h i (omega (arith, span_in_lem 0 n i m)))

      pub changed_none : (f : ℕ → List ℕ → List ℕ) → length t ≡ n * width → ((i : ℕ) → i < n → f i (row_of width t i) ≡ row_of width t i) → changed width f n t ≡ t
      unfolding changed
      changed_none f l h = changed_same f (λ i r. r) h ∙ sym (rows_all t l)

      module _ (f : ℕ → List ℕ → List ℕ) (wide : (i : ℕ) (r : List ℕ) → length r ≡ width → length (f i r) ≡ width) where
        pub changed_length : length (changed width f n t) ≡ n * width
        unfolding changed
        changed_length = rows_length width (λ i. f i (row_of width t i)) (λ i. wide i (row_of width t i) (row_long t i)) n

        pub changed_row : (i : ℕ) → i < n → row_of width (changed width f n t) i ≡ f i (row_of width t i)
        unfolding changed
        changed_row i h = row_made (λ i. f i (row_of width t i)) (λ i. wide i (row_of width t i) (row_long t i)) i h

        pub changed_twice : (g : ℕ → List ℕ → List ℕ) → changed width g n (changed width f n t) ≡ changed width (λ i r. g i (f i r)) n t
        unfolding changed
        changed_twice g = changed_made (λ i. f i (row_of width t i)) (λ i. wide i (row_of width t i) (row_long t i)) g

-- ---- one row

module _ {width i : ℕ} {g : List ℕ → List ℕ} {before after : List ℕ} where
  -- some of its numbers are set
  pub sets_row :
      (j : ℕ) (vs : List ℕ) → j + length vs ≤ width → i * width + width ≤ length before → after ≡ sets before (i * width + j) vs → sets (row_of width before i) j vs ≡ g (row_of width before i) →
      RowChanged width i g before after
  sets_row j vs h room e same =
      record {
        long = ap length e ∙ length-sets before (i * width + j) vs;
        rows = λ k. ap (λ (t : List ℕ). row_of width t k) e ∙ row_sets width before vs i j k h room ∙ go k (ℕ_discrete k i);
      }
    where
      go : (k : ℕ) → Dec (k ≡ i) → cond (eqb k i) (sets (row_of width before k) j vs) (row_of width before k) ≡ cond (eqb k i) (g (row_of width before k)) (row_of width before k)
      go k (yes s) = rw s (ap (λ (r : List ℕ). cond (eqb i i) r (row_of width before i)) same)
      go k (no s) = rw (ne_eqb k i s)

  -- nothing is
  pub no_row : after ≡ before → row_of width before i ≡ g (row_of width before i) → RowChanged width i g before after
  no_row e same = record { long = ap length e; rows = λ k. ap (λ (t : List ℕ). row_of width t k) e ∙ go k (ℕ_discrete k i) }
    where
      go : (k : ℕ) → Dec (k ≡ i) → row_of width before k ≡ cond (eqb k i) (g (row_of width before k)) (row_of width before k)
      go k (yes s) = rw (s, eq-eqb i i refl) same
      go k (no s) = rw (ne_eqb k i s)

-- ---- a loop that changes one row a turn

-- the first i rows are changed
pub record Changing (width : ℕ) (f : ℕ → List ℕ → List ℕ) (n : ℕ) (t : List ℕ) (i : ℕ) (out : List ℕ) : Type 0 where
  pub long : length out ≡ n * width
  pub done : (k : ℕ) → k < i → row_of width out k ≡ f k (row_of width t k)
  pub left : (k : ℕ) → i ≤ k → row_of width out k ≡ row_of width t k

pub changing_none : (width : ℕ) (f : ℕ → List ℕ → List ℕ) (n : ℕ) (t : List ℕ) → length t ≡ n * width → Changing width f n t 0 t
changing_none width f n t l = record { long = l; done = λ k h. absurd (omega arith); left = λ k h. refl }

module _ {width : ℕ} {f : ℕ → List ℕ → List ℕ} {n : ℕ} {t : List ℕ} {i : ℕ} {out : List ℕ} (w : Changing width f n t i out) where
  pub changing_room : i < n → i * width + width ≤ length out
  changing_room h = omega (arith, w.long, row_inside width h)

  -- the numbers of the next row are as they were
  pub changing_cell : (j : ℕ) → j < width → get_or out (i * width + j) 0 ≡ get_or t (i * width + j) 0
  changing_cell j h = sym (row_at width out i j h) ∙ ap (λ (r : List ℕ). get_or r j 0) (w.left i (omega arith)) ∙ row_at width t i j h

  pub changing_more : {out' : List ℕ} → RowChanged width i (f i) out out' → Changing width f n t (i + 1) out'
  changing_more {out'} c =
      record {
        long = c.long ∙ w.long;
        done = λ k h. c.rows k ∙ one k h (ℕ_discrete k i);
        left = λ k h. c.rows k ∙ ap (λ (b : Bool). cond b (f i (row_of width out k)) (row_of width out k)) (ne_eqb k i (λ e. absurd (omega arith))) ∙ w.left k (omega arith);
      }
    where
      one : (k : ℕ) → k < i + 1 → Dec (k ≡ i) → cond (eqb k i) (f i (row_of width out k)) (row_of width out k) ≡ f k (row_of width t k)
      one k h (yes e) = rw (e, eq-eqb i i refl) (ap (f i) (w.left i (omega arith)))
      one k h (no e) = rw (ne_eqb k i e) (w.done k (omega arith))

  pub changing_end : n ≤ i → out ≡ changed width f n t
  unfolding changed
  changing_end h =
      rows_all width n out w.long
      ∙ flat_same (row_of width out) (λ k. f k (row_of width t k)) (span 0 n) (λ k m. w.done k (omega (arith, span_in_lem 0 n k m)))
