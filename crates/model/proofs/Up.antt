-- Steps up the tree: what stands k steps above, and that a top is reached within as many levels as there are activities.
use Rattle.std.specs.Prelude.{None, Option, Some}
use Prim.Native.Nat.{ℕ, zero, suc, ◌+◌, ◌-◌, ◌≤◌, ◌<◌}
use mathlib.Core.Path.{◌≡◌, refl, sym, ap, ◌∙◌}
use mathlib.Core.Logic.{◌⊎◌, inl, inr}
use native.Mathlib.Omega.{arith}
use lib.ListN.{length}
use Rattle.model.specs.Tree.{Parents, parent_of, Ancestor, steps, walk, steps_made}
use Rattle.model.specs.Outline.{Top}
use Rattle.model.proofs.Pigeonhole.{at_most}
use Rattle.model.proofs.Tree.{has_parent}
use Rattle.lists.proofs.Options.{none_ne_some, some_injective}

abbrev pub or_zero : Option ℕ → ℕ
or_zero None = 0
or_zero (Some q) = q

module _ (ps : Parents) where
  abbrev pub onward : Option ℕ → Option ℕ
  onward None = None
  onward (Some i) = parent_of ps i

  unfoldable pub up : ℕ → Option ℕ → Option ℕ
  up zero o = o
  up (suc k) o = up k (onward o)

  -- the last step
  pub up_last : (k : ℕ) (o : Option ℕ) → up (suc k) o ≡ onward (up k o)
  unfolding up
  up_last zero o = refl
  up_last (suc k) o = up_last k (onward o)

  pub up_none : (k : ℕ) → up k None ≡ None
  unfolding up
  up_none zero = refl
  up_none (suc k) = up_none k

  -- past the end
  pub past : (a b : ℕ) (o : Option ℕ) → up a o ≡ None → a ≤ b → up b o ≡ None
  unfolding up
  past zero b o e h = ap (up b) e ∙ up_none b
  past (suc a) zero o e h = absurd (omega arith)
  past (suc a) (suc b) o e h = past a b (onward o) e (omega arith)

  pub below_inside : {t i : ℕ} → Ancestor ps t i → i < length ps
  below_inside {t} {i} (Ancestor.parent e) = has_parent ps i t e
  below_inside {t} {i} (Ancestor.above {q = q} e r) = has_parent ps i q e

  -- ---- below a top
  module _ (t : ℕ) (top : Top ps t) where
    -- on the way to it stand activities only
    on_the_way : (a b : ℕ) (o : Option ℕ) → up b o ≡ Some t → a ≤ b → (q : ℕ) × (up a o ≡ Some q) × (q < length ps)
    unfolding up
    on_the_way (suc a) zero o e h = absurd (omega arith)
    on_the_way (suc a) (suc b) o e h = on_the_way a b (onward o) e (omega arith)
    on_the_way zero zero o e h = (t, e, top.0)
    on_the_way zero (suc b) None e h = absurd (none_ne_some t (sym (up_none b) ∙ e))
    on_the_way zero (suc b) (Some q) e h = go (parent_of ps q) refl e
      where
        go : (o : Option ℕ) → parent_of ps q ≡ o → up b o ≡ Some t → (r : ℕ) × (Some q ≡ Some r) × (r < length ps)
        go None s e = absurd (none_ne_some t (sym (up_none b) ∙ e))
        go (Some p) s e = (q, refl, has_parent ps q p s)

    -- and none twice
    no_return : (d j m k : ℕ) (o : Option ℕ) → up k o ≡ Some t → j < m → m + d ≡ k → up j o ≡ up m o → ⊥
    no_return zero j m k o e h s same =
        let z : m ≡ k = omega arith in
        let here : up j o ≡ Some t = same ∙ ap (λ (n : ℕ). up n o) z ∙ e in
        none_ne_some t (sym (past (suc j) k o (up_last j o ∙ ap onward here ∙ top.1) (omega arith)) ∙ e)
    no_return (suc d) j m k o e h s same = no_return d (suc j) (suc m) k o e (omega arith) (omega arith) (up_last j o ∙ ap onward same ∙ sym (up_last m o))

    pub few_levels : (k i : ℕ) → up k (Some i) ≡ Some t → k < length ps
    few_levels k i e =
        at_most (λ j. or_zero (up j (Some i))) (suc k) (length ps)
        (λ j h. let w = on_the_way j k (Some i) e (omega arith) in omega (arith, w.2, ap or_zero w.1))
        (λ j m h l s.
        let v = on_the_way j k (Some i) e (omega arith) in
        let w = on_the_way m k (Some i) e (omega arith) in
        no_return (k - m) j m k (Some i) e h (omega arith) (v.1 ∙ ap Some (sym (ap or_zero v.1) ∙ s ∙ ap or_zero w.1) ∙ sym w.1))

    -- the walk makes that many steps
    pub made : (k limit i : ℕ) → up k (Some i) ≡ Some t → k ≤ limit → steps_made ps limit i ≡ k
    unfolding up steps_made walk steps
    made zero limit i e h = ap (λ (o : Option ℕ). length (steps ps limit o)) (ap (parent_of ps) (some_injective i t e) ∙ top.1) ∙ none_made limit
      where
        none_made : (limit : ℕ) → length (steps ps limit None) ≡ 0
        none_made zero = refl
        none_made (suc limit) = refl
    made (suc k) zero i e h = absurd (omega arith)
    made (suc k) (suc limit) i e h = go (parent_of ps i) e (λ q. made k limit q)
      where
        go : (o : Option ℕ) → up k o ≡ Some t → ((q : ℕ) → up k (Some q) ≡ Some t → k ≤ limit → length (steps ps limit (parent_of ps q)) ≡ k) → length (steps ps (suc limit) o) ≡ suc k
        go None e ih = absurd (none_ne_some t (sym (up_none k) ∙ e))
        go (Some q) e ih = ap suc (ih q e (omega arith))

    -- no circle is above
    pub no_circle : (k c i : ℕ) → up k (Some i) ≡ Some t → Ancestor ps c c → Ancestor ps c i → ⊥
    unfolding up
    no_circle zero c i e r (Ancestor.parent {i = j} s) = none_ne_some c (sym (ap (parent_of ps) (some_injective i t e) ∙ top.1) ∙ s)
    no_circle zero c i e r (Ancestor.above {i = j} {q = q} s w) = none_ne_some q (sym (ap (parent_of ps) (some_injective i t e) ∙ top.1) ∙ s)
    no_circle (suc k) c i e r (Ancestor.parent s) = no_circle k c c (sym (ap (up k) s) ∙ e) r r
    no_circle (suc k) c i e r (Ancestor.above {q = q} s w) = no_circle k c q (sym (ap (up k) s) ∙ e) r w

  -- ---- an ancestor stands some steps above
  pub steps_above : {t i : ℕ} → Ancestor ps t i → (k : ℕ) × (up k (Some i) ≡ Some t)
  unfolding up
  steps_above (Ancestor.parent e) = (1, e)
  steps_above (Ancestor.above e r) = (suc (steps_above r).0, ap (up (steps_above r).0) e ∙ (steps_above r).1)

  pub above_by : (k i t : ℕ) → up (suc k) (Some i) ≡ Some t → Ancestor ps t i
  unfolding up
  above_by zero i t e = Ancestor.parent e
  above_by (suc k) i t e = go (parent_of ps i) refl e (λ q. above_by k q t)
    where
      go : (o : Option ℕ) → parent_of ps i ≡ o → up (suc k) o ≡ Some t → ((q : ℕ) → up (suc k) (Some q) ≡ Some t → Ancestor ps t q) → Ancestor ps t i
      go None s e ih = absurd (none_ne_some t (sym (up_none (suc k)) ∙ e))
      go (Some q) s e ih = Ancestor.above s (ih q e)

  pub is_above : (k i t : ℕ) → up k (Some i) ≡ Some t → (i ≡ t) ⊎ Ancestor ps t i
  unfolding up
  is_above zero i t e = inl (some_injective i t e)
  is_above (suc k) i t e = inr (above_by k i t e)

  -- steps in two parts
  pub up_parts : (a b k : ℕ) (o : Option ℕ) → a + b ≡ k → up k o ≡ up b (up a o)
  unfolding up
  up_parts zero b k o e = let s : k ≡ b = omega arith in ap (λ (n : ℕ). up n o) s
  up_parts (suc a) b zero o e = absurd (omega arith)
  up_parts (suc a) b (suc k) o e = up_parts a b k (onward o) (omega arith)
