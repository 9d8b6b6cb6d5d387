-- The columns as they are made, from the last activity to the first: so far they chain the activities from i on.
use Rattle.std.specs.Prelude.{None, Option, Some}
use Prim.Native.Nat.{ℕ, suc, ◌+◌, ◌-◌, ◌≤◌, ◌<◌}
use mathlib.Core.Path.{◌≡◌, refl, sym, ap, ap₂, ◌∙◌}
use mathlib.Core.Bool.{Bool, true, false, cond}
use mathlib.Core.List.{List, ◌∷◌}
use native.Mathlib.Nat.{sub-zero}
use native.Mathlib.Omega.{arith}
use native.Mathlib.Decide.{ℕ_discrete}
use lib.Dec.{eqb, ltb}
use lib.ListN.{length, get_or, set, length-set, replicate, length-replicate, get_or-replicate}
use lib.Seq.{get_or-set_same, get_or-set_other}
use borrow.Author.Tests.{eq-eqb, ne_eqb, ltb-true}
use Rattle.lists.specs.Lists.{span, cons_if, keep}
use Rattle.lists.proofs.Lists.{keep_alike}
use Rattle.lists.proofs.Spans.{span_in_lem}
use Rattle.model.specs.Tree.{parent_of, names}
use Rattle.model.specs.Outline.{is_none, tops, children}
use Rattle.tree.specs.Figures.{index_of, parents_of}
use Rattle.tree.proofs.Walks.{count_is, parent_is}
use Rattle.descent.specs.Links.{place_of, chain_from, linked, Rises, IsLinksOf}
use Rattle.descent.proofs.Chains.{chain_end, chain_next, chain_kept}

-- the place that activity j hangs on
abbrev pub place_at : List ℕ → ℕ → ℕ
place_at numbers j = place_of (length numbers) (get_or numbers j 0)

-- those from i on that hang on a place
abbrev hanging : List ℕ → ℕ → ℕ → List ℕ
hanging numbers place i = keep (λ (j : ℕ). eqb (place_at numbers j) place) (span i (length numbers - i))

pub record Linking (numbers first next : List ℕ) (i : ℕ) : Type 0 where
  pub within : i ≤ length numbers
  pub firsts : length first ≡ length numbers + 1
  pub nexts : length next ≡ length numbers
  pub rises : Rises i next
  pub ahead : (s : ℕ) → s < length first → i ≤ get_or first s 0
  pub chains : (s : ℕ) → s < length first → chain_from next (get_or first s 0) ≡ hanging numbers s i

place_inside : (count parent : ℕ) → place_of count parent < count + 1
place_inside count parent = go (ltb parent count) refl
  where
    go : (b : Bool) → ltb parent count ≡ b → cond b parent count < count + 1
    go true e = omega (arith, ltb-true parent count e)
    go false e = omega arith

-- that of an activity is inside the column of the first
pub placed : (numbers : List ℕ) (k : ℕ) {place : ℕ} → place ≡ place_at numbers k → place < length numbers + 1
placed numbers k e = omega (arith, e, place_inside (length numbers) (get_or numbers k 0))

pub linking_first : (numbers first next : List ℕ) → length next ≡ length numbers → first ≡ replicate (length numbers + 1) (length numbers) → Linking numbers first next (length numbers)
unfolding span keep
linking_first numbers first next n e = record {
  within = omega arith;
  firsts = sizes;
  nexts = n;
  rises = λ i h l. absurd (omega arith);
  ahead = λ s h. omega (arith, all s h);
  chains = λ s h. ap (chain_from next) (all s h) ∙ chain_end next (length numbers) (omega arith) ∙ ap (λ (k : ℕ). keep (λ (j : ℕ). eqb (place_at numbers j) s) (span (length numbers) k)) none_left;
}
  where
    sizes : length first ≡ length numbers + 1
    sizes = ap length e ∙ length-replicate (length numbers + 1) (length numbers)

    all : (s : ℕ) → s < length first → get_or first s 0 ≡ length numbers
    all s h = ap (λ (xs : List ℕ). get_or xs s 0) e ∙ get_or-replicate (length numbers + 1) s (length numbers) 0 (omega (arith, sizes))

    none_left : 0 ≡ length numbers - length numbers
    none_left = omega arith

-- one more in front
module _ (numbers first next : List ℕ) (i k : ℕ) (g : Linking numbers first next i) (e : suc k ≡ i) where
  abbrev place : ℕ
  place = place_at numbers k

  abbrev first' : List ℕ
  first' = set first place k

  abbrev next' : List ℕ
  next' = set next k (get_or first place 0)

  place_in : place < length first
  place_in = omega (arith, g.firsts, place_inside (length numbers) (get_or numbers k 0))

  hung : (s : ℕ) (b : Bool) → eqb place s ≡ b → hanging numbers s k ≡ cons_if b k (hanging numbers s i)
  unfolding span keep
  hung s b f =
      let m : length numbers - k ≡ suc (length numbers - i) = omega (arith, g.within) in
      let all = keep (λ (j : ℕ). eqb (place_at numbers j) s) in
      ap (λ (n : ℕ). all (span k n)) m
      ∙ ap₂ (λ (c : Bool) (a : ℕ). cons_if c k (all (span a (length numbers - i)))) f e

  rises' : Rises k next'
  rises' j h l = go (ℕ_discrete j k)
    where
      go : Dec (j ≡ k) → j < get_or next' j 0
      go (yes s) = omega (arith, ap (λ (n : ℕ). get_or next' n 0) s, get_or-set_same next k (get_or first place 0) 0 (omega (arith, length-set next k (get_or first place 0))), g.ahead place place_in)
      go (no s) = omega (arith, get_or-set_other next k j (get_or first place 0) 0 s, g.rises j (omega arith) (omega (arith, length-set next k (get_or first place 0))))

  pub linking_next : Linking numbers first' next' k
  linking_next = record {
    within = omega (arith, g.within);
    firsts = length-set first place k ∙ g.firsts;
    nexts = length-set next k (get_or first place 0) ∙ g.nexts;
    rises = rises';
    ahead = λ s h. ahead_at s (omega (arith, length-set first place k)) (ℕ_discrete s place);
    chains = λ s h. chains_at s (omega (arith, length-set first place k)) (ℕ_discrete s place);
  }
    where
      ahead_at : (s : ℕ) → s < length first → Dec (s ≡ place) → k ≤ get_or first' s 0
      ahead_at s h (yes f) = omega (arith, ap (λ (n : ℕ). get_or first' n 0) f, get_or-set_same first place k 0 place_in)
      ahead_at s h (no f) = omega (arith, get_or-set_other first place s k 0 f, g.ahead s h)

      chains_at : (s : ℕ) → s < length first → Dec (s ≡ place) → chain_from next' (get_or first' s 0) ≡ hanging numbers s k
      chains_at s h (yes f) =
          ap (chain_from next') (ap (λ (n : ℕ). get_or first' n 0) f ∙ get_or-set_same first place k 0 place_in)
          ∙ chain_next next' k rises' k (omega arith) (omega (arith, length-set next k (get_or first place 0), g.nexts, g.within))
          ∙ ap (λ (n : ℕ). k ∷ chain_from next' n) (get_or-set_same next k (get_or first place 0) 0 (omega (arith, g.nexts, g.within)))
          ∙ ap (λ (is : List ℕ). k ∷ is) (chain_kept next i g.rises k (get_or first place 0) (get_or first place 0) (g.ahead place place_in) (omega (arith, g.ahead place place_in)) ∙ g.chains place place_in)
          ∙ ap (λ (n : ℕ). k ∷ hanging numbers n i) (sym f)
          ∙ sym (hung s true (eq-eqb place s (sym f)))
      chains_at s h (no f) =
          ap (chain_from next') (get_or-set_other first place s k 0 f)
          ∙ chain_kept next i g.rises k (get_or first place 0) (get_or first s 0) (g.ahead s h) (omega (arith, g.ahead s h))
          ∙ g.chains s h
          ∙ sym (hung s false (ne_eqb place s (λ w. f (sym w))))

pub linking_turn : (numbers first next : List ℕ) (i k place : ℕ) → Linking numbers first next i → suc k ≡ i → place ≡ place_at numbers k
    → Linking numbers (set first place k) (set next k (get_or first place 0)) k
linking_turn numbers first next i k place g e s = rw s (linking_next numbers first next i k g e)

-- ---- with all of them, the chains are the tops and the children
module _ (numbers : List ℕ) where
  child : (p x : ℕ) → p < length numbers → eqb (place_of (length numbers) x) p ≡ names p (index_of (length numbers) x)
  child p x h = go (ltb x (length numbers))
    where
      go : (b : Bool) → eqb (cond b x (length numbers)) p ≡ names p (cond b (Some x) None)
      go true = refl
      go false = ne_eqb (length numbers) p (λ e. omega arith)

  top : (x : ℕ) → eqb (place_of (length numbers) x) (length numbers) ≡ is_none (index_of (length numbers) x)
  top x = go (ltb x (length numbers)) refl
    where
      go : (b : Bool) → ltb x (length numbers) ≡ b → eqb (cond b x (length numbers)) (length numbers) ≡ is_none (cond b (Some x) None)
      go true e = ne_eqb x (length numbers) (λ s. omega (arith, ltb-true x (length numbers) e))
      go false e = eq-eqb (length numbers) (length numbers) refl

  -- all that hang on a place
  all_hanging : (s : ℕ) (q : Option ℕ → Bool) → ((x : ℕ) → eqb (place_of (length numbers) x) s ≡ q (index_of (length numbers) x))
      → hanging numbers s 0 ≡ keep (λ (j : ℕ). q (parent_of (parents_of numbers) j)) (span 0 (length (parents_of numbers)))
  all_hanging s q h =
      ap (λ (n : ℕ). keep (λ (j : ℕ). eqb (place_at numbers j) s) (span 0 n)) (sub-zero (length numbers) ∙ sym (count_is numbers))
      ∙ keep_alike (λ j. eqb (place_at numbers j) s) (λ j. q (parent_of (parents_of numbers) j)) (span 0 (length (parents_of numbers)))
      (λ j m. h (get_or numbers j 0) ∙ ap q (sym (parent_is numbers j (omega (arith, span_in_lem 0 (length (parents_of numbers)) j m, count_is numbers)))))

pub linking_last : (numbers first next : List ℕ) → Linking numbers first next 0 → IsLinksOf numbers first next
unfolding linked tops children
linking_last numbers first next g = record {
  rises = g.rises;
  tops_are = g.chains (length numbers) (omega (arith, g.firsts)) ∙ all_hanging numbers (length numbers) is_none (top numbers);
  children_are = λ p h. g.chains p (omega (arith, g.firsts)) ∙ all_hanging numbers p (names p) (λ x. child numbers p x h);
}
