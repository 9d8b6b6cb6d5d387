-- Where each parent is an activity, the way up from any leads to a top or onto a circle.
use Rattle.std.specs.Prelude.{None, Option, Some}
use Prim.Native.Nat.{ℕ, zero, suc, ◌-◌, ◌<◌}
use mathlib.Core.Path.{◌≡◌, refl, sym, ap, ◌∙◌}
use mathlib.Core.Logic.{◌⊎◌, inl, inr, ⊎_elim}
use native.Mathlib.Omega.{arith}
use lib.ListN.{length}
use Rattle.model.specs.Tree.{Parents, parent_of}
use Rattle.model.specs.Outline.{Top, HasTop, OnCircle, ParentsInside}
use Rattle.model.proofs.Pigeonhole.{pigeons}
use Rattle.model.proofs.Up.{or_zero, up, up_parts, above_by, is_above}

module _ (ps : Parents) (inside : ParentsInside ps) where
  -- k steps up it is still an activity
  abbrev Still : ℕ → ℕ → Type 0
  Still k i = (j : ℕ) → j < suc k → (q : ℕ) × (up ps j (Some i) ≡ Some q) × (q < length ps)

  abbrev Reached : ℕ → Type 0
  Reached i = (t : ℕ) × (k : ℕ) × Top ps t × (up ps k (Some i) ≡ Some t)

  climb : (k i : ℕ) → i < length ps → Reached i ⊎ Still k i
  unfolding up
  climb zero i h = inr (λ j l. let z : j ≡ 0 = omega arith in (i, ap (λ (n : ℕ). up ps n (Some i)) z, h))
  climb (suc k) i h = go (parent_of ps i) refl (climb k)
    where
      go : (o : Option ℕ) → parent_of ps i ≡ o → ((p : ℕ) → p < length ps → Reached p ⊎ Still k p) → Reached i ⊎ Still (suc k) i
      go None e ih = inl (i, 0, (h, e), refl)
      go (Some p) e ih = ⊎_elim (λ r. inl (r.0, suc r.1, r.2, ap (up ps r.1) e ∙ r.3)) (λ s. inr (still s)) (ih p (inside i p e))
        where
          still : Still k p → Still (suc k) i
          still s zero l = (i, refl, h)
          still s (suc j) l = let w = s j (omega arith) in (w.0, ap (up ps j) e ∙ w.1, w.2)

  circle : (i : ℕ) → Still (length ps) i → OnCircle ps i
  circle i s =
      let w = pigeons (λ k. or_zero (up ps k (Some i))) (length ps) (λ k h. let q = s k h in omega (arith, q.2, ap or_zero q.1)) in
      let a = s w.0 (omega (arith, w.2, w.3)) in
      let b = s w.1 w.3 in
      let same : b.0 ≡ a.0 = sym (ap or_zero b.1) ∙ sym w.4 ∙ ap or_zero a.1 in
      let round : up ps (w.1 - w.0) (Some a.0) ≡ Some a.0 = ap (up ps (w.1 - w.0)) (sym a.1) ∙ sym (up_parts ps w.0 (w.1 - w.0) w.1 (Some i) (omega (arith, w.2))) ∙ b.1 ∙ ap Some same in
      let less : suc (w.1 - w.0 - 1) ≡ w.1 - w.0 = omega (arith, w.2) in
      let more : suc (w.1 - 1) ≡ w.1 = omega (arith, w.2) in
      (a.0, above_by ps (w.1 - w.0 - 1) a.0 a.0 (ap (λ (n : ℕ). up ps n (Some a.0)) less ∙ round), above_by ps (w.1 - 1) i a.0 (ap (λ (n : ℕ). up ps n (Some i)) more ∙ b.1 ∙ ap Some same))

  pub top_or_circle : (i : ℕ) → i < length ps → HasTop ps i ⊎ OnCircle ps i
  top_or_circle i h = ⊎_elim (λ r. inl (r.0, r.2, is_above ps r.1 i r.0 r.3)) (λ s. inr (circle i s)) (climb (length ps) i h)
