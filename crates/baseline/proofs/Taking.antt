-- The lines of the baseline, taken into a table one after the other: of each activity the first or the last counts.
use Rattle.std.specs.Prelude.{None, Option, Some, unwrap_or}
use Prim.Native.Nat.{ℕ, zero, suc, ◌+◌, ◌*◌, ◌≤◌, ◌<◌}
use native.Mathlib.Numerals.{add-one}
use native.Mathlib.Nat.{add-zero}
use native.Mathlib.Omega.{arith}
use native.Mathlib.Decide.{ℕ_discrete}
use mathlib.Core.Path.{◌≡◌, refl, ap, sym, ◌∙◌, subst, fun_ext}
use mathlib.Core.Logic.{◌⊎◌, inl, inr}
use mathlib.Core.Bool.{Bool, true, false, cond}
use mathlib.Core.List.{List, [], ◌∷◌, flat_map, foldl}
use lib.Dec.{eqb}
use lib.ListN.{length, get_or, set, drop, take, replicate, length-set, drop_of_length-le}
use lib.Seq.{sets, length-sets, get_or-set_same, get_or-set_other, drop-cons}
use borrow.Author.Tests.{eq-eqb, eqb-true}
use Rattle.format.specs.InRange.{Every, BaselineLineInRange}
use Rattle.format.specs.Book.{BaselineLine, Book}
use Rattle.money.specs.Words.{bits}
use Rattle.lists.specs.Lists.{span}
use Rattle.model.specs.Tree.{parents}
use Rattle.model.specs.Planned.{first_line, line_of}
use Rattle.model.specs.Variances.{last_among, last_line}
use Rattle.flat.proofs.Cells.{row_inside, cell_apart}
use Rattle.flat.proofs.Spans.{rows_length, rows_at, rows_cells}
use Rattle.baseline.specs.Lines.{line_by, line_row, lines_table, counts, taken, Zeros}
use Rattle.std.specs.Option.{option_or}

-- ---- a row set in a table

module _ {B : Type 0} (d : B) where
  sets_other : (vs out : List B) (at k : ℕ) → (k < at) ⊎ (at + length vs ≤ k) → get_or (sets out at vs) k d ≡ get_or out k d
  sets_other [] out at k h = refl
  sets_other (v ∷ vs) out at k (inl h) = sets_other vs (set out at v) (suc at) k (inl (omega arith)) ∙ get_or-set_other out at k v d (λ e. omega arith)
  sets_other (v ∷ vs) out at k (inr h) = sets_other vs (set out at v) (suc at) k (inr (omega arith)) ∙ get_or-set_other out at k v d (λ e. omega arith)

  sets_at : (vs out : List B) (at j : ℕ) → j < length vs → at + length vs ≤ length out → get_or (sets out at vs) (at + j) d ≡ get_or vs j d
  sets_at [] out at j h r = absurd (omega arith)
  sets_at (v ∷ vs) out at zero h r =
      rw (add-zero at) (sets_other vs (set out at v) (suc at) at (inl (omega arith)) ∙ get_or-set_same out at v d (omega arith))
  sets_at (v ∷ vs) out at (suc j) h r =
      let e : at + suc j ≡ suc at + j = omega arith in
      rw e (sets_at vs (set out at v) (suc at) j (omega arith) (omega (arith, length-set out at v)))

  -- a table of which row i is another
  pub row_set :
      (width : ℕ) (row row' : ℕ → List B) → ((j : ℕ) → length (row j) ≡ width) → ((j : ℕ) → length (row' j) ≡ width) → (n i : ℕ) → i < n →
      ((j : ℕ) → (j ≡ i → ⊥) → row j ≡ row' j) → sets (flat_map row (span 0 n)) (i * width) (row' i) ≡ flat_map row' (span 0 n)
  row_set width row row' wide wide' n i h same =
      rows_cells width row' wide' n d (sets table (i * width) (row' i)) (length-sets table (i * width) (row' i) ∙ long) (λ p j l k. go p j l k (ℕ_discrete p i))
    where
      table : List B
      table = flat_map row (span 0 n)

      long : length table ≡ n * width
      long = rows_length width row wide n

      go : (p j : ℕ) → p < n → j < width → Dec (p ≡ i) → get_or (sets table (i * width) (row' i)) (p * width + j) d ≡ get_or (row' p) j d
      go p j l k (yes e) =
          rw e (sets_at (row' i) table (i * width) j (omega (arith, wide' i)) (omega (arith, wide' i, long, row_inside width h)))
      go p j l k (no e) =
          sets_other (row' i) table (i * width) (p * width + j) (rw (wide' i) (cell_apart p i k e))
          ∙ rows_at width row wide n p j d l k
          ∙ ap (λ (r : List B). get_or r j d) (same p e)

-- ---- the lines that count so far, by activity

abbrev Lines : Type 0
Lines = ℕ → Option BaselineLine

abbrev pub table_of : ℕ → Lines → List ℕ
table_of n f = flat_map (λ (i : ℕ). line_row (f i)) (span 0 n)

five : (o : Option BaselineLine) → length (line_row o) ≡ 5
five None = refl
five (Some l) = refl

-- of two lines of an activity
abbrev picked : Bool → Option BaselineLine → BaselineLine → Option BaselineLine
picked true o l = Some l
picked false None l = Some l
picked false (Some x) l = Some x

-- with one line more
abbrev with_line : Bool → Lines → BaselineLine → Lines
with_line last f l i = cond (eqb l.activity i) (picked last (f i) l) (f i)

module _ (last : Bool) (n : ℕ) (f : Lines) (l : BaselineLine) (h : l.activity < n) where
  abbrev a : ℕ
  a = l.activity

  -- the lines of the others stay
  others : (j : ℕ) → (j ≡ a → ⊥) → f j ≡ with_line last f l j
  others j e = go (eqb a j) refl
    where
      go : (b : Bool) → eqb a j ≡ b → f j ≡ cond b (picked last (f j) l) (f j)
      go true q = absurd (e (sym (eqb-true a j q)))
      go false q = refl

  -- the activity's own
  mine : with_line last f l a ≡ picked last (f a) l
  mine = ap (λ (b : Bool). cond b (picked last (f a) l) (f a)) (eq-eqb a a refl)

  marked : get_or (table_of n f) (a * 5) 0 ≡ get_or (line_row (f a)) 0 0
  marked = let e : a * 5 ≡ a * 5 + 0 = omega arith in rw e (rows_at 5 (λ i. line_row (f i)) (λ i. five (f i)) n a 0 0 h (omega arith))

  -- the line counts
  took : picked last (f a) l ≡ Some l → sets (table_of n f) (a * 5) (line_row (Some l)) ≡ table_of n (with_line last f l)
  took e =
      ap (λ (o : Option BaselineLine). sets (table_of n f) (a * 5) (line_row o)) (sym (mine ∙ e))
      ∙ row_set 0 5 (λ i. line_row (f i)) (λ i. line_row (with_line last f l i)) (λ i. five (f i)) (λ i. five (with_line last f l i)) n a h (λ j d. ap line_row (others j d))

  -- one before it does
  stayed : picked last (f a) l ≡ f a → table_of n f ≡ table_of n (with_line last f l)
  stayed e = ap (table_of n) (fun_ext (λ j. go j (ℕ_discrete j a)))
    where
      go : (j : ℕ) → Dec (j ≡ a) → f j ≡ with_line last f l j
      go j (yes s) = rw s (sym (mine ∙ e))
      go j (no s) = others j s

  taken_step : taken last (table_of n f) l ≡ table_of n (with_line last f l)
  unfolding taken
  taken_step = rw marked (go last (f a) took stayed)
    where
      go :
          (last : Bool) (o : Option BaselineLine) → let next = table_of n (with_line last f l) in
          (picked last o l ≡ Some l → sets (table_of n f) (a * 5) (line_row (Some l)) ≡ next) → (picked last o l ≡ o → table_of n f ≡ next) →
          cond (counts last (get_or (line_row o) 0 0)) (sets (table_of n f) (a * 5) (line_row (Some l))) (table_of n f) ≡ next
      go true o t s = t refl
      go false None t s = t refl
      go false (Some x) t s = s refl

-- ---- all lines

abbrev all_lines : Bool → Lines → List BaselineLine → Lines
all_lines last f [] = f
all_lines last f (l ∷ ls) = all_lines last (with_line last f l) ls

taken_lines :
    (last : Bool) (n : ℕ) (ls : List BaselineLine) (f : Lines) → Every (BaselineLineInRange n) ls → foldl (taken last) (table_of n f) ls ≡ table_of n (all_lines last f ls)
taken_lines last n [] f r = refl
taken_lines last n (l ∷ ls) f r =
    ap (λ (t : List ℕ). foldl (taken last) t ls) (taken_step last n f l (r 0 l (omega arith)).activity)
    ∙ taken_lines last n ls (with_line last f l) (λ k d q. r (suc k) d (omega arith))

first_of : (ls : List BaselineLine) (f : Lines) (i : ℕ) → all_lines false f ls i ≡ option_or (f i) (first_line ls i)
unfolding first_line
first_of [] f i = go (f i)
  where
    go : (o : Option BaselineLine) → o ≡ option_or o None
    go None = refl
    go (Some x) = refl
first_of (l ∷ ls) f i = first_of ls (with_line false f l) i ∙ go (eqb l.activity i) (f i)
  where
    go : (b : Bool) (o : Option BaselineLine) → option_or (cond b (picked false o l) o) (first_line ls i) ≡ option_or o (cond b (Some l) (first_line ls i))
    go true None = refl
    go true (Some x) = refl
    go false o = refl

last_of : (ls : List BaselineLine) (f : Lines) (i : ℕ) → all_lines true f ls i ≡ option_or (last_among ls i) (f i)
unfolding last_among
last_of [] f i = refl
last_of (l ∷ ls) f i = last_of ls (with_line true f l) i ∙ go (last_among ls i) (eqb l.activity i)
  where
    go : (o : Option BaselineLine) (b : Bool) → option_or o (cond b (Some l) (f i)) ≡ option_or (option_or o (cond b (Some l) None)) (f i)
    go None true = refl
    go None false = refl
    go (Some x) b = refl

-- from no lines
pub taken_all :
    (last : Bool) (book : Book) (n : ℕ) → length (parents book) ≡ n → Every (BaselineLineInRange n) (unwrap_or book.baseline []) → (table : List ℕ) → length table ≡ n * 5 → Zeros table →
    foldl (taken last) table (unwrap_or book.baseline []) ≡ lines_table last book
unfolding lines_table line_of last_line
taken_all last book n e r table long zeros =
    let ls = unwrap_or book.baseline [] in
    ap (λ (t : List ℕ). foldl (taken last) t ls) clear
    ∙ taken_lines last n ls (λ i. None) r
    ∙ ap (table_of n) (fun_ext (λ i. go last i))
    ∙ ap (λ (k : ℕ). table_of k (line_by last book)) (sym e)
  where
    clear : table ≡ table_of n (λ i. None)
    clear = rows_cells 5 (λ i. line_row None) (λ i. refl) n 0 table long (λ i j h l. zeros (i * 5 + j) ∙ sym (nought j))
      where
        nought : (j : ℕ) → get_or (line_row None) j 0 ≡ 0
        nought zero = refl
        nought (suc zero) = refl
        nought (suc (suc zero)) = refl
        nought (suc (suc (suc zero))) = refl
        nought (suc (suc (suc (suc zero)))) = refl
        nought (suc (suc (suc (suc (suc j))))) = refl

    go : (last : Bool) (i : ℕ) → all_lines last (λ i. None) (unwrap_or book.baseline []) i ≡ line_by last book i
    go true i = last_of (unwrap_or book.baseline []) (λ i. None) i ∙ same (last_among (unwrap_or book.baseline []) i)
      where
        same : (o : Option BaselineLine) → option_or o None ≡ o
        same None = refl
        same (Some x) = refl
    go false i = first_of (unwrap_or book.baseline []) (λ i. None) i

pub taken_length : (last : Bool) (table : List ℕ) (l : BaselineLine) → length (taken last table l) ≡ length table
unfolding taken
taken_length last table l = go (counts last (get_or table (l.activity * 5) 0))
  where
    go : (b : Bool) → length (cond b (sets table (l.activity * 5) (line_row (Some l))) table) ≡ length table
    go true = length-sets table (l.activity * 5) (line_row (Some l))
    go false = refl

-- as the code does it: the five numbers set one behind the other, or nothing
module _ (last : Bool) (table : List ℕ) (l : BaselineLine) {b : Bool} (is : b ≡ counts last (get_or table (l.activity * 5) 0)) where
  pub taken_set :
      b ≡ true → (cost : ℕ) → cost ≡ bits l.cost → let at = l.activity * 5 in
      sets table at (1 ∷ l.start ∷ l.finish ∷ l.minutes ∷ cost ∷ []) ≡ taken last table l
  unfolding taken
  taken_set t cost e = rw (← is, t, e) refl

  pub taken_past : b ≡ false → table ≡ taken last table l
  unfolding taken
  taken_past f = rw (← is, f) refl

-- ---- the loop

-- the lines from i on are yet to be taken
pub record Taking (last : Bool) (all : List BaselineLine) (before : List ℕ) (i : ℕ) (table : List ℕ) : Type 0 where
  pub long : length table ≡ length before
  pub rest : foldl (taken last) table (drop i all) ≡ foldl (taken last) before all

pub taking_none : (last : Bool) (all : List BaselineLine) (table : List ℕ) → Taking last all table 0 table
taking_none last all table = record { long = refl; rest = refl }

module _ {last : Bool} {all : List BaselineLine} {before : List ℕ} {i : ℕ} {table : List ℕ} (w : Taking last all before i table) where
  pub taking_more : (l : BaselineLine) → i < length all → get_or all i l ≡ l → {next : List ℕ} → next ≡ taken last table l → Taking last all before (i + 1) next
  taking_more l h is {next} e =
      record {
        long = ap length e ∙ taken_length last table l ∙ w.long;
        rest = rw (e, add-one i) (sym (ap (foldl (taken last) table) (drop-cons all i l h ∙ ap (λ (x : BaselineLine). x ∷ drop (suc i) all) is)) ∙ w.rest);
      }

  pub taking_end : length all ≤ i → table ≡ foldl (taken last) before all
  taking_end h = sym (ap (foldl (taken last) table) (drop_of_length-le all {i = i} h)) ∙ w.rest

-- the line that is read is one of them
pub read_range :
    (P : BaselineLine → Type 0) (ls : List BaselineLine) → Every P ls → {all : List BaselineLine} → ls ≡ all → (i : ℕ) (l : BaselineLine) → i < length all → get_or all i l ≡ l → P l
read_range P ls r e i l h is = subst P is (subst (Every P) e r i l h)

-- a part of an array of zeros
pub zeros_taken : (k m : ℕ) → Zeros (take k (replicate m 0))
zeros_taken zero m i = refl
zeros_taken (suc k) zero i = refl
zeros_taken (suc k) (suc m) zero = refl
zeros_taken (suc k) (suc m) (suc i) = zeros_taken k m i
