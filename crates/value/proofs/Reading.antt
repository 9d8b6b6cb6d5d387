-- Rows of earned value: read from tables of figures, and as they are answered.
use Rattle.std.specs.Prelude.{Option, option_map}
use Prim.Native.Nat.{ℕ, ◌+◌, ◌*◌, ◌<◌}
use native.Mathlib.Numerals.{add-one, add-two, add-three, add-four}
use native.Mathlib.Omega.{arith}
use mathlib.Core.Path.{◌≡◌, refl, ap, ap₂, sym, ◌∙◌}
use mathlib.Core.List.{List, ◌∷◌, map, flat_map}
use lib.IntN.{ℤ, pos}
use lib.ListN.{length, get_or, set, length-set, length-map}
use lib.Seq.{sets}
use Rattle.money.specs.Words.{bits}
use Rattle.format.specs.Book.{Activity, Book}
use Rattle.model.specs.declared.Earned.{Earned}
use Rattle.lists.specs.Lists.{span}
use Rattle.model.specs.Tree.{parents, indices}
use Rattle.model.specs.Earned.{earned_at, earned_value, spent_in}
use Rattle.lists.proofs.Spans.{span_in_lem}
use Rattle.flat.proofs.Sets.{sets_on}
use Rattle.flat.proofs.Tables.{flat_same, flat_map_map}
use Rattle.tree.specs.Figures.{figure_of}
use Rattle.tree.specs.Tables.{earned_figures, rolled_values}
use Rattle.flat.proofs.Spans.{rows_at}
use Rattle.rows.specs.Rows.{numbers, optional}
use Rattle.rows.proofs.Numbers.{numbers_flat}
use Rattle.answers.specs.Rows.{earned_row, earned_value_rows, outline_width}
use Rattle.answers.proofs.SizedEarned.{row_wide}
use Rattle.value.specs.Figures.{earned_in, outlined_in}

-- five figures set one behind the other
pub five_set :
    (out : List ℕ) (at : ℕ) (e : Earned) {a b c d f : ℕ} → a ≡ bits e.budget → b ≡ bits e.planned → c ≡ bits e.earned → d ≡ bits e.actual → f ≡ bits e.remaining →
    set (set (set (set (set out at a) (at + 1) b) (at + 2) c) (at + 3) d) (at + 4) f ≡ sets out at (map bits (earned_figures e))
five_set out at e p q r s t = rw (p, q, r, s, t, add-one at, add-two at, add-three at, add-four at) refl

-- and what is spent behind them
pub row_set :
    (out : List ℕ) (at : ℕ) (e : Earned) {figures row : List ℕ} {share : Option ℕ} → figures ≡ sets out at (map bits (earned_figures e)) → share ≡ option_map bits (spent_in e) →
    row ≡ sets figures (at + 5) (optional share) → row ≡ sets out at (earned_row e)
unfolding earned_row
row_set out at e f o p =
    p
    ∙ ap₂ (λ (xs : List ℕ) (x : Option ℕ). sets xs (at + 5) (optional x)) f o
    ∙ sets_on out at (map bits (earned_figures e)) (optional (option_map bits (spent_in e))) (at + 5) refl

-- a row of a table is the figures that it was made of
pub row_read : (f : ℕ → Earned) (n : ℕ) {table : List ℤ} → table ≡ flat_map (λ i. earned_figures (f i)) (span 0 n) → (i : ℕ) → i < n → earned_in table i ≡ f i
row_read f n {table} e i h =
    let first : figure_of table (i * 5) ≡ (f i).budget = (let z : i * 5 ≡ i * 5 + 0 = omega arith in ap (figure_of table) z ∙ at 0 (omega arith)) in
    λ k.
    record {
      budget = first k;
      planned = at 1 (omega arith) k;
      earned = at 2 (omega arith) k;
      actual = at 3 (omega arith) k;
      remaining = at 4 (omega arith) k;
    }
  where
    at : (j : ℕ) → j < 5 → figure_of table (i * 5 + j) ≡ get_or (earned_figures (f i)) j (pos 0)
    at j l = ap (λ (t : List ℤ). figure_of t (i * 5 + j)) e ∙ rows_at 5 (λ m. earned_figures (f m)) (λ m. refl) n i j (pos 0) h l

module _ (b : Book) (date : ℕ) (n : ℕ) (count : length b.activities ≡ n) {table : List ℤ} (e : table ≡ rolled_values b date) where
  parents_are : length (parents b) ≡ n
  unfolding parents
  parents_are = length-map b.activities (λ (a : Activity). a.parent) ∙ count

  made : table ≡ flat_map (λ i. earned_figures (earned_at b date i)) (span 0 n)
  unfolding rolled_values
  made = e ∙ ap (λ (k : ℕ). flat_map (λ i. earned_figures (earned_at b date i)) (span 0 k)) parents_are

  -- of an activity
  pub rolled_read : (i : ℕ) → i < n → earned_in table i ≡ earned_at b date i
  rolled_read = row_read (earned_at b date) n made

  -- of all
  pub rows_read : flat_map (λ i. earned_row (earned_in table i)) (span 0 n) ≡ numbers (earned_value_rows date b)
  unfolding earned_value_rows earned_value
  rows_read =
      flat_same (λ i. earned_row (earned_in table i)) (λ i. earned_row (earned_at b date i)) (span 0 n) (λ i m. let k = span_in_lem 0 n i m in ap earned_row (rolled_read i (omega arith)))
      ∙ ap (λ (k : ℕ). flat_map (λ i. earned_row (earned_at b date i)) (span 0 k)) (sym parents_are)
      ∙ sym (flat_map_map earned_row (earned_at b date) (indices (parents b)))
      ∙ sym (numbers_flat earned_row (map (earned_at b date) (indices (parents b))))

-- ---- the rows of the outline

-- two numbers, and a row behind them
pub two_length : (out : List ℕ) (at level index : ℕ) → length (set (set out at level) (at + 1) index) ≡ length out
two_length out at level index = length-set (set out at level) (at + 1) index ∙ length-set out at level

pub line_set :
    (out : List ℕ) (at level index : ℕ) (e : Earned) {row : List ℕ} → row ≡ sets (set (set out at level) (at + 1) index) (at + 2) (earned_row e) → row ≡ sets out at (level ∷ index ∷ earned_row e)
line_set out at level index e p = p ∙ rw (add-one at, add-two at) refl

module _ (table : List ℤ) (lines : List ℕ) where
  pub outlined_wide : (k : ℕ) → length (outlined_in table lines k) ≡ outline_width
  outlined_wide k = omega (arith, row_wide (earned_in table (get_or lines (k * 2 + 1) 0)))

  -- the row of a line, with the figures that were read
  pub outlined_set :
      (out : List ℕ) (k : ℕ) {e : Earned} {row : List ℕ} → e ≡ earned_in table (get_or lines (k * 2 + 1) 0) →
      row ≡ sets out (k * 9) (get_or lines (k * 2) 0 ∷ get_or lines (k * 2 + 1) 0 ∷ earned_row e) → row ≡ sets out (k * 9) (outlined_in table lines k)
  outlined_set out k read p = p ∙ ap (λ (e : Earned). sets out (k * 9) (get_or lines (k * 2) 0 ∷ get_or lines (k * 2 + 1) 0 ∷ earned_row e)) read
