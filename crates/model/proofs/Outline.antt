-- The outline keeps its promise, and in every book each parent is an activity.
use Rattle.std.specs.Prelude.{None, Some}
use Prim.Native.Nat.{ℕ, ◌+◌, ◌<◌}
use mathlib.Core.Path.{◌≡◌, refl, sym, ap, ◌∙◌, subst}
use mathlib.Core.Logic.{inl, inr, ⊎_elim}
use mathlib.Core.List.{List, Memᴰ}
use native.Mathlib.Omega.{arith}
use native.Mathlib.Decide.{dec_lt, ℕ_discrete}
use lib.ListN.{length, get_or}
use Rattle.format.specs.Book.{Activity, Book}
use Rattle.format.specs.Inverse.{Given}
use Rattle.format.specs.InRange.{InRange}
use Rattle.lists.proofs.Lists.{flat_in, got_in, at_map}
use Rattle.lists.proofs.Distinct.{in_flat, place_of, Distinct, distinct_at, distinct_flat}
use Rattle.model.specs.Lookup.{no_activity}
use Rattle.model.specs.Tree.{Parents, parents, parent_of, steps_made, step_limit}
use Rattle.model.specs.Outline.{Line, line, tops, children, branch, branches, outline, line_at, Top, InBranch, HasTop, ParentsInside, Appears, IsOutlineOf}
use Rattle.model.proofs.Pigeonhole.{at_most}
use Rattle.model.proofs.Tree.{parents_count, has_parent}
use Rattle.model.proofs.Up.{up, below_inside, few_levels, made, no_circle, steps_above, is_above}
use Rattle.model.proofs.Siblings.{Under, one_sibling, outline_ordered, ordered_at}
use Rattle.model.proofs.Circles.{top_or_circle}
use Rattle.model.proofs.Branches.{top_of, in_tops, tops_distinct, below_by, in_branch, one_branch, branch_distinct, follow_flat, branch_follows, follow_at}
use Rattle.lists.proofs.Options.{none_ne_some}

module _ (ps : Parents) where
  abbrev from : ℕ → List Line
  from t = branch (children ps) (length ps) 1 t

  -- the top of a line, and how far up it stands
  abbrev Found : Line → Type 0
  Found x = (t : ℕ) × (k : ℕ) × Top ps t × (x.level ≡ 1 + k) × (up ps k (Some x.index) ≡ Some t)

  found : (x : Line) → Memᴰ x (outline ps) → Found x
  unfolding outline branches
  found x m =
      let w = flat_in from x (tops ps) m in
      let v = below_by ps (length ps) 1 w.0 x w.2 in
      (w.0, v.0, top_of ps w.0 w.1, v.2, v.3)

  there : (t k i : ℕ) → Top ps t → up ps k (Some i) ≡ Some t → Memᴰ (line (1 + k) i) (outline ps)
  unfolding outline branches
  there t k i top u = in_flat from (line (1 + k) i) t (tops ps) (in_tops ps t top) (in_branch ps (length ps) k 1 (1 + k) i t (few_levels ps t top k i u) refl u)

  steps_to : (i : ℕ) (h : HasTop ps i) → (k : ℕ) × (up ps k (Some i) ≡ Some h.0)
  unfolding up
  steps_to i h = ⊎_elim (λ e. (0, ap Some e)) (steps_above ps) h.2

  module _ (k : ℕ) (h : k < length (outline ps)) where
    at : Found (line_at (outline ps) k)
    at = found (line_at (outline ps) k) (got_in (outline ps) (line 0 0) k h)

    level_is : (line_at (outline ps) k).level ≡ 1 + steps_made ps (step_limit ps) (line_at (outline ps) k).index
    level_is = let f = at in omega (arith, f.3, made ps f.0 f.2 f.1 (step_limit ps) (line_at (outline ps) k).index f.4 (omega (arith, few_levels ps f.0 f.2 f.1 (line_at (outline ps) k).index f.4)))

    has_top : HasTop ps (line_at (outline ps) k).index
    has_top = let f = at in (f.0, f.2, is_above ps f.1 (line_at (outline ps) k).index f.0 f.4)

  outline_distinct : Distinct (outline ps)
  unfolding outline branches
  outline_distinct = distinct_flat from (branch_distinct ps (length ps) 1) (one_branch ps (length ps) 1) (tops ps) (tops_distinct ps)

  alone : (j k : ℕ) → j < k → k < length (outline ps) → (line_at (outline ps) j).index ≡ (line_at (outline ps) k).index → ⊥
  alone j k h l e =
      let level : (line_at (outline ps) j).level ≡ (line_at (outline ps) k).level = level_is j (omega arith) ∙ ap (λ (i : ℕ). 1 + steps_made ps (step_limit ps) i) e ∙ sym (level_is k l) in
      distinct_at (line 0 0) (outline ps) outline_distinct j k h l (ap (λ (n : ℕ). line n (line_at (outline ps) j).index) level ∙ ap (line (line_at (outline ps) k).level) e)

  parent_first : (k p : ℕ) → k < length (outline ps) → parent_of ps (line_at (outline ps) k).index ≡ Some p → (j : ℕ) × (j < k) × ((line_at (outline ps) j).index ≡ p)
  unfolding outline branches
  parent_first k p h e =
      ⊎_elim (λ w. w) absurd
      (follow_at ps (λ p. ⊥) (outline ps)
      (follow_flat ps (λ p. ⊥) from (tops ps) (λ t m. branch_follows ps (length ps) 1 t (λ p. ⊥) (λ q s. none_ne_some q (sym (top_of ps t m).1 ∙ s))))
      k p h e)

  an_activity : (i : ℕ) → HasTop ps i → i < length ps
  an_activity i h = ⊎_elim (λ e. omega (arith, h.1.0)) (below_inside ps) h.2

  -- each line is of an activity
  pub line_inside : (k : ℕ) → k < length (outline ps) → (line_at (outline ps) k).index < length ps
  line_inside k h = an_activity (line_at (outline ps) k).index (has_top k h)

  appearing : (i : ℕ) → HasTop ps i → Appears (outline ps) i
  appearing i h =
      let s = steps_to i h in
      let w = place_of (line 0 0) (line (1 + s.0) i) (outline ps) (there h.0 s.0 i h.1 s.1) in
      (w.0, w.1, ap (λ (x : Line). x.index) w.2)

  listed : (i : ℕ) → Appears (outline ps) i → HasTop ps i
  listed i a = subst (HasTop ps) a.2 (has_top a.0 a.1)

  in_order : (a b : ℕ) → parent_of ps a ≡ parent_of ps b → a < b → (j k : ℕ) → j < length (outline ps) → k < length (outline ps)
      → InBranch ps a (line_at (outline ps) j).index → (line_at (outline ps) k).index ≡ b → j < k
  unfolding up
  in_order a b e h j k l m inside here = go (dec_lt j k) (ℕ_discrete k j)
    where
      y : ℕ
      y = (line_at (outline ps) j).index

      under : Under ps a y
      under = ⊎_elim (λ s. (0, ap Some s)) (steps_above ps) inside

      go : Dec (j < k) → Dec (k ≡ j) → j < k
      go (yes d) same = d
      go (no d) (yes same) =
          let f = at j l in
          let self : Under ps b y = (0, ap (λ (n : ℕ). Some (line_at (outline ps) n).index) (sym same) ∙ ap Some here) in
          absurd (omega (arith, one_sibling ps f.0 f.2 a b y f.1 f.4 e under self))
      go (no d) (no other) =
          absurd
          (ordered_at ps (outline ps) (outline_ordered ps) k j (omega (arith, other)) l a (e ∙ ap (parent_of ps) (sym here)) (omega (arith, here)) under)

  pub outline_is : IsOutlineOf ps (outline ps)
  outline_is = record {
    order = in_order;
    appears = appearing;
    once = alone;
    after = parent_first;
    only = listed;
    circles = λ i c a. let h = listed i a in let s = steps_to i h in no_circle ps h.0 h.1 s.0 c.0 i s.1 c.1 c.2;
    others = λ inside i h. ⊎_elim (λ t. inl (appearing i t)) inr (top_or_circle ps inside i h);
    level = level_is;
    room = at_most (λ k. (line_at (outline ps) k).index) (length (outline ps)) (length ps) line_inside alone;
  }

pub parents_inside : (book : Book) → InRange book → ParentsInside (parents book)
unfolding parents
parents_inside book r i p e =
    let h : i < length book.activities = omega (arith, has_parent (parents book) i p e, parents_count book) in
    let here : (get_or book.activities i no_activity).parent ≡ Some p = sym (at_map (λ (a : Activity). a.parent) book.activities i no_activity None h) ∙ e in
    omega (arith, parents_count book, subst (Given (λ (j : ℕ). j < length book.activities)) here (r.activities i no_activity h).parent)
