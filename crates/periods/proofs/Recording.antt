-- The figures, as the records are taken one after the other.
use Prim.Native.Nat.{ℕ, ◌+◌, ◌*◌, ◌≤◌, ◌<◌}
use native.Mathlib.Numerals.{add-one}
use mathlib.Core.Path.{◌≡◌, refl, sym, ap, ◌∙◌}
use mathlib.Core.Bool.{Bool, true, false, cond}
use mathlib.Core.List.{List, [], ◌∷◌, ◌++◌, foldl, foldl-append}
use lib.IntN.{ℤ, pos}
use lib.ListN.{length, get_or, take}
use lib.Seq.{take_all, take-suc}
use Rattle.format.specs.Book.{PeriodRecord}
use Rattle.model.specs.Periods.{actual_in}
use Rattle.tree.specs.Figures.{is_unmarked}
use Rattle.calendar.specs.Changes.{Changed}
use Rattle.calendar.proofs.Changes.{changed_none, changed_then, changed_same}
use Rattle.todate.specs.declared.Entry.{Entry}
use Rattle.todate.specs.Figures.{IsEntry, entered}
use Rattle.periods.specs.Points.{recorded_one, recorded}

-- ---- one record

module _ (marks finishes : List ℕ) (r : PeriodRecord) (figures : List ℤ) where
  by_leaf : {b : Bool} → is_unmarked marks r.activity ≡ b → (i j : ℕ) (z : ℤ) → recorded_one marks finishes r i j z ≡ cond b (entered finishes r.period r.earned (actual_in r) i j z) z
  by_leaf e i j z = ap (λ (b : Bool). cond b (entered finishes r.period r.earned (actual_in r) i j z) z) e

  -- of a leaf
  pub record_taken :
      {e : Entry} {after : List ℤ} → is_unmarked marks r.activity ≡ true → IsEntry r e → Changed 3 (entered finishes e.period e.earned e.actual) figures after →
      Changed 3 (recorded_one marks finishes r) figures after
  record_taken {e} leaf is c =
      changed_same c (recorded_one marks finishes r)
      (λ i j l h.
      let z = get_or figures (i * 3 + j) (pos 0) in
      ap (λ (q : ℕ). entered finishes q e.earned e.actual i j z) is.period
      ∙ ap (λ (x : ℤ). entered finishes r.period x e.actual i j z) is.earned
      ∙ ap (λ (x : ℤ). entered finishes r.period r.earned x i j z) is.actual
      ∙ sym (by_leaf leaf i j z))

  -- of a parent
  pub record_passed : is_unmarked marks r.activity ≡ false → Changed 3 (recorded_one marks finishes r) figures figures
  record_passed parent = changed_same (changed_none figures) (recorded_one marks finishes r) (λ i j l h. sym (by_leaf parent i j (get_or figures (i * 3 + j) (pos 0))))

-- ---- all of them

-- the first i are taken
pub record Recorded (marks finishes : List ℕ) (all : List PeriodRecord) (before : List ℤ) (i : ℕ) (figures : List ℤ) : Type 0 where
  pub changed : Changed 3 (recorded marks finishes (take i all)) before figures

pub recorded_none : {marks finishes : List ℕ} {all : List PeriodRecord} {figures : List ℤ} → Recorded marks finishes all figures 0 figures
unfolding recorded
recorded_none {marks} {finishes} {figures = figures} = record { changed = changed_same (changed_none figures) (recorded marks finishes []) (λ i j l h. refl) }

module _ {marks finishes : List ℕ} {all : List PeriodRecord} {before : List ℤ} {i : ℕ} {figures : List ℤ} (w : Recorded marks finishes all before i figures) where
  pub recorded_more : {r : PeriodRecord} {after : List ℤ} → i < length all → get_or all i r ≡ r → Changed 3 (recorded_one marks finishes r) figures after → Recorded marks finishes all before (i + 1) after
  unfolding recorded
  recorded_more {r} h is c =
      let one : take (i + 1) all ≡ take i all ++ (r ∷ []) = rw (add-one i) (take-suc all i r h ∙ ap (λ (x : PeriodRecord). take i all ++ (x ∷ [])) is) in
      record {
        changed =
            changed_same (changed_then w.changed c) (recorded marks finishes (take (i + 1) all))
            (λ p j l k.
            let step : ℤ → PeriodRecord → ℤ = λ y x. recorded_one marks finishes x p j y in
            let z = get_or before (p * 3 + j) (pos 0) in
            sym (ap (foldl step z) one ∙ foldl-append step z (take i all) (r ∷ [])));
      }

  pub recorded_end : length all ≤ i → Changed 3 (recorded marks finishes all) before figures
  recorded_end h = rw (take_all i all h) at w.changed
