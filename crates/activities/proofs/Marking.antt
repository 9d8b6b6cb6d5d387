-- Leaf marks from a schedule: what a loop keeps that marks the parent of an activity a turn.
use Rattle.std.specs.Prelude.{None, Option, Some}
use Prim.Native.Nat.{ℕ, suc, ◌+◌, ◌≤◌, ◌<◌, min}
use native.Mathlib.Omega.{arith}
use mathlib.Core.Path.{◌≡◌, refl, ap, sym, ◌∙◌}
use mathlib.Core.Bool.{Bool, true, false, cond}
use mathlib.Core.List.{List}
use lib.Dec.{eqb}
use lib.ListN.{length, get_or, set, drop, drop_of_length-le, replicate, get_or-replicate}
use lib.Seq.{drop-cons, get_or-set_same, get_or-set_other}
use borrow.Author.Tests.{eqb-true, eqb-false}
use Rattle.format.specs.Book.{Activity, Book}
use Rattle.format.specs.Format.{names}
use Rattle.sections.specs.Sections.{mark_of}
use Rattle.activities.specs.Leaves.{is_parent, leaf_mark}
use Rattle.model.specs.Lookup.{no_activity}
use Rattle.model.specs.Tree.{parents}
use Rattle.tree.specs.Figures.{MarksLeaves}
use Rattle.spans.specs.Columns.{parent_number}
use Rattle.activities.proofs.Leaves.{marks_leaves}

-- a mark that is set is that of what is named
set_mark :
    (marks : List ℕ) (a : Option ℕ) (k : ℕ) → length marks ≡ 500 → k < 500 →
    get_or (set marks (mark_of a) 1) k 0 ≡ cond (names a (Some k)) 1 (get_or marks k 0)
unfolding names mark_of
set_mark marks None k l h = get_or-set_other marks 500 k 1 0 (λ e. omega arith)
set_mark marks (Some v) k l h = go (eqb v k) refl
  where
    go : (b : Bool) → eqb v k ≡ b → get_or (set marks (min v 500) 1) k 0 ≡ cond b 1 (get_or marks k 0)
    go true e =
        let z : min v 500 ≡ k = omega (arith, eqb-true v k e) in
        rw z (get_or-set_same marks k 1 0 (omega arith))
    go false e = get_or-set_other marks (min v 500) k 1 0 (λ z. eqb-false v k e (omega arith))

-- marked by the first, or by the rest
first_or_rest : (x y : Bool) (m : ℕ) → cond y 1 (cond x 1 m) ≡ cond (cond x true y) 1 m
first_or_rest true true m = refl
first_or_rest true false m = refl
first_or_rest false y m = refl

-- the parents of the first i activities are marked: those of the rest are yet to be
pub record Marking (all : List Activity) (i : ℕ) (marks : List ℕ) : Type 0 where
  pub rest : (k : ℕ) → k < 500 → cond (is_parent k (drop i all)) 1 (get_or marks k 0) ≡ leaf_mark k all

pub marking_none : (all : List Activity) → Marking all 0 (replicate 500 0)
marking_none all = record { rest = λ k h. rw (get_or-replicate {A = ℕ} 500 k 0 0 h) }

module _ {all : List Activity} {i : ℕ} {marks : List ℕ} (w : Marking all i marks) where
  pub marking_more : length marks ≡ 500 → i < length all → {t : List ℕ} → t ≡ set marks (parent_number (get_or all i no_activity)) 1 → Marking all (i + 1) t
  unfolding is_parent parent_number
  marking_more l h {t} e =
      let a = get_or all i no_activity in
      let next : i + 1 ≡ suc i = omega arith in
      record {
        rest = λ k b.
            rw (e, next, set_mark marks a.parent k l b)
            (first_or_rest (names a.parent (Some k)) (is_parent k (drop (suc i) all)) (get_or marks k 0)
            ∙ sym (ap (λ (x : List Activity). cond (is_parent k x) 1 (get_or marks k 0)) (drop-cons all i no_activity h))
            ∙ w.rest k b);
      }

  pub marking_end : length all ≤ i → (k : ℕ) → k < 500 → get_or marks k 0 ≡ leaf_mark k all
  unfolding is_parent
  marking_end h k b = sym (ap (λ (x : List Activity). cond (is_parent k x) 1 (get_or marks k 0)) (drop_of_length-le all {i = i} h)) ∙ w.rest k b

pub marked_leaves : (b : Book) {i : ℕ} {marks : List ℕ} → Marking b.activities i marks → length b.activities ≤ i → length b.activities ≤ 500 → MarksLeaves marks (parents b)
marked_leaves b {i} {marks} w h l = marks_leaves marks b l (marking_end w h)
