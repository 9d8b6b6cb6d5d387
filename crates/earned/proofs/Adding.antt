-- The units of the assignments, added one after the other.
use Prim.Native.Nat.{ℕ, zero, suc, ◌+◌, ◌*◌, ◌≤◌, ◌<◌}
use native.Mathlib.Numerals.{add-one}
use native.Mathlib.Omega.{arith}
use mathlib.Core.Path.{◌≡◌, refl, ap, sym, ◌∙◌}
use mathlib.Core.Bool.{Bool, true, false, cond}
use mathlib.Core.List.{List, ◌∷◌, flat_map}
use lib.Dec.{eqb}
use lib.IntN.{ℤ, pos, ◌+ℤ◌}
use lib.ListN.{length, get_or, set, drop, take, replicate, length-set, drop_of_length-le}
use lib.Seq.{drop-cons, get_or-set_same, get_or-set_other}
use mir.Syntax.{w64}
use borrow.Author.Tests.{eqb-true, eqb-false}
use Rattle.integer.specs.Clamp.{clamp}
use Rattle.integer.specs.Folds.{saturated, saturated_append}
use Rattle.format.specs.declared.EvTechnique.{EvTechnique}
use Rattle.format.specs.Book.{Assignment, Book}
use Rattle.lists.specs.Lists.{keep}
use Rattle.model.specs.Costs.{assignments_of}
use Rattle.model.specs.Earned.{units_done, units_in_all}
use Rattle.flat.proofs.Tables.{flat_one}
use Rattle.earned.specs.Units.{done_of, all_of, added, summed_by, Summed, is_units, AreUnits}

abbrev of : ℕ → Assignment → Bool
of i x = eqb x.activity i

-- ---- one assignment

module _ (table : List ℤ) (x : Assignment) (room : x.activity * 2 + 1 < length table) where
  abbrev at : ℕ
  at = x.activity * 2

  abbrev d : ℤ
  d = saturated w64 (get_or table at (pos 0)) (done_of x)

  abbrev a : ℤ
  a = saturated w64 (get_or table (at + 1) (pos 0)) (all_of x)

  -- as the code does it
  pub added_is :
      (z y : ℤ) → z ≡ clamp w64 (get_or table at (pos 0) +ℤ x.actual) → y ≡ clamp w64 (clamp w64 (get_or table (at + 1) (pos 0) +ℤ x.actual) +ℤ x.remaining) →
      set (set table at z) (at + 1) y ≡ added table x
  unfolding added saturated
  added_is z y e f = rw (e, f) refl

  pub added_length : length (added table x) ≡ length table
  unfolding added
  added_length = length-set (set table at d) (at + 1) a ∙ length-set table at d

  done_same : get_or (added table x) at (pos 0) ≡ d
  unfolding added
  done_same = get_or-set_other (set table at d) (at + 1) at a (pos 0) (λ e. omega arith) ∙ get_or-set_same table at d (pos 0) (omega arith)

  total_same : get_or (added table x) (at + 1) (pos 0) ≡ a
  unfolding added
  total_same = get_or-set_same (set table at d) (at + 1) a (pos 0) (omega (arith, length-set table at d))

  other : (k : ℕ) → (k ≡ at → ⊥) → (k ≡ at + 1 → ⊥) → get_or (added table x) k (pos 0) ≡ get_or table k (pos 0)
  unfolding added
  other k e f = get_or-set_other (set table at d) (at + 1) k a (pos 0) f ∙ get_or-set_other table at k d (pos 0) e

-- ---- the loop: what those from k on still add, to the figure of activity i at a place

abbrev left : (Assignment → List ℤ) → List Assignment → ℕ → ℤ → ℤ
left f rest i z = saturated w64 z (flat_map f (keep (of i) rest))

-- the next is the activity's, or another's
module _ (f : Assignment → List ℤ) (x : Assignment) (rest : List Assignment) (i : ℕ) (z : ℤ) where
  left_mine : eqb x.activity i ≡ true → left f (x ∷ rest) i z ≡ left f rest i (saturated w64 z (f x))
  unfolding keep flat_map
  left_mine e = rw e (saturated_append w64 z (f x) (flat_map f (keep (of i) rest)))

  left_other : eqb x.activity i ≡ false → left f (x ∷ rest) i z ≡ left f rest i z
  unfolding keep
  left_other e = rw e refl

pub record Adding (all : List Assignment) (n k : ℕ) (table : List ℤ) : Type 0 where
  pub long : length table ≡ n * 2
  pub done : (i : ℕ) → i < n → left done_of (drop k all) i (get_or table (i * 2) (pos 0)) ≡ summed_by done_of all i
  pub total : (i : ℕ) → i < n → left all_of (drop k all) i (get_or table (i * 2 + 1) (pos 0)) ≡ summed_by all_of all i

pub adding_none : (all : List Assignment) (n : ℕ) (table : List ℤ) → length table ≡ n * 2 → ((k : ℕ) → get_or table k (pos 0) ≡ pos 0) → Adding all n 0 table
adding_none all n table e z =
    record { long = e; done = λ i h. ap (left done_of all i) (z (i * 2)); total = λ i h. ap (left all_of all i) (z (i * 2 + 1)) }

module _ {all : List Assignment} {n k : ℕ} {table : List ℤ} (w : Adding all n k table) where
  pub adding_more : (x : Assignment) → k < length all → get_or all k x ≡ x → x.activity < n → {next : List ℤ} → next ≡ added table x → Adding all n (k + 1) next
  adding_more x h is inside {next} e =
      rw e
      record {
        long = added_length table x room ∙ w.long;
        done = λ i l. sym (move done_of i (i * 2) (eqb x.activity i) refl (mine_done i) (other_done i)) ∙ w.done i l;
        total = λ i l. sym (move all_of i (i * 2 + 1) (eqb x.activity i) refl (mine_total i) (other_total i)) ∙ w.total i l;
      }
    where
      room : x.activity * 2 + 1 < length table
      room = omega (arith, w.long)

      next_is : drop k all ≡ x ∷ drop (k + 1) all
      next_is = rw (add-one k) (drop-cons all k x h ∙ ap (λ (y : Assignment). y ∷ drop (suc k) all) is)

      move :
          (f : Assignment → List ℤ) (i p : ℕ) (b : Bool) → eqb x.activity i ≡ b →
          (eqb x.activity i ≡ true → get_or (added table x) p (pos 0) ≡ saturated w64 (get_or table p (pos 0)) (f x)) →
          (eqb x.activity i ≡ false → get_or (added table x) p (pos 0) ≡ get_or table p (pos 0)) →
          left f (drop k all) i (get_or table p (pos 0)) ≡ left f (drop (k + 1) all) i (get_or (added table x) p (pos 0))
      move f i p true q mine other =
          ap (λ (l : List Assignment). left f l i (get_or table p (pos 0))) next_is ∙ left_mine f x (drop (k + 1) all) i (get_or table p (pos 0)) q ∙ sym (ap (left f (drop (k + 1) all) i) (mine q))
      move f i p false q mine other =
          ap (λ (l : List Assignment). left f l i (get_or table p (pos 0))) next_is ∙ left_other f x (drop (k + 1) all) i (get_or table p (pos 0)) q ∙ sym (ap (left f (drop (k + 1) all) i) (other q))

      mine_done : (i : ℕ) → eqb x.activity i ≡ true → get_or (added table x) (i * 2) (pos 0) ≡ saturated w64 (get_or table (i * 2) (pos 0)) (done_of x)
      mine_done i q = rw (← eqb-true x.activity i q) (done_same table x room)

      mine_total : (i : ℕ) → eqb x.activity i ≡ true → get_or (added table x) (i * 2 + 1) (pos 0) ≡ saturated w64 (get_or table (i * 2 + 1) (pos 0)) (all_of x)
      mine_total i q = rw (← eqb-true x.activity i q) (total_same table x room)

      other_done : (i : ℕ) → eqb x.activity i ≡ false → get_or (added table x) (i * 2) (pos 0) ≡ get_or table (i * 2) (pos 0)
      other_done i q = other table x room (i * 2) (λ s. eqb-false x.activity i q (omega arith)) (λ s. omega arith)

      other_total : (i : ℕ) → eqb x.activity i ≡ false → get_or (added table x) (i * 2 + 1) (pos 0) ≡ get_or table (i * 2 + 1) (pos 0)
      other_total i q = other table x room (i * 2 + 1) (λ s. omega arith) (λ s. eqb-false x.activity i q (omega arith))

  pub adding_end : length all ≤ k → Summed all n table
  unfolding saturated keep flat_map
  adding_end h =
      let none = drop_of_length-le all {i = k} h in
      record { long = w.long; done = λ i l. rw none at (w.done i l); total = λ i l. rw none at (w.total i l) }

-- ---- of a book

module _ (b : Book) (technique : EvTechnique) {units : List ℤ} where
  pub units_summed :
      is_units technique ≡ true → {all : List Assignment} {n : ℕ} → b.assignments ≡ all → length b.activities ≡ n → Summed all n units → AreUnits b technique units
  unfolding units_done units_in_all assignments_of
  units_summed t e l s =
      record {
        long = s.long ∙ ap (λ (k : ℕ). k * 2) (sym l);
        done =
            λ i h.
            s.done i (omega (arith, l))
            ∙ ap (λ (xs : List Assignment). summed_by done_of xs i) (sym e)
            ∙ ap (saturated w64 (pos 0)) (flat_one (λ (x : Assignment). x.actual) (assignments_of b i))
            ∙ sym (ap (λ (c : Bool). cond c (units_done b i) (pos 0)) t);
        total =
            λ i h.
            s.total i (omega (arith, l)) ∙ ap (λ (xs : List Assignment). summed_by all_of xs i) (sym e) ∙ sym (ap (λ (c : Bool). cond c (units_in_all b i) (pos 0)) t);
      }

  pub units_none : is_units technique ≡ false → length units ≡ length b.activities * 2 → ((k : ℕ) → get_or units k (pos 0) ≡ pos 0) → AreUnits b technique units
  units_none f e z =
      record {
        long = e;
        done = λ i h. z (i * 2) ∙ sym (ap (λ (c : Bool). cond c (units_done b i) (pos 0)) f);
        total = λ i h. z (i * 2 + 1) ∙ sym (ap (λ (c : Bool). cond c (units_in_all b i) (pos 0)) f);
      }

-- a part of an array of zeros
pub nothing_taken : (k m i : ℕ) → get_or (take k (replicate m (pos 0))) i (pos 0) ≡ pos 0
nothing_taken zero m i = refl
nothing_taken (suc k) zero i = refl
nothing_taken (suc k) (suc m) zero = refl
nothing_taken (suc k) (suc m) (suc i) = nothing_taken k m i
