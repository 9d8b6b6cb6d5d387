-- Numbers below n, no two alike: there are at most n of them. Of more than n, two are alike.
use mathlib.Core.Path.{◌≡◌, refl, sym, ap, ◌∙◌}
use mathlib.Core.Logic.{◌⊎◌, inl, inr, ⊎_elim}
use mathlib.Core.Bool.{Bool, true, false}
use Prim.Native.Nat.{ℕ, zero, suc, ◌+◌, ◌≤◌, ◌<◌, zero-le}
use native.Mathlib.Omega.{arith}
use native.Mathlib.Decide.{ℕ_discrete}
use borrow.Author.Tests.{eqb-true, ne_eqb, lt-ltb}
use lib.Dec.{eqb}
use Rattle.integer.specs.Sums.{nats, sum, only, sum_cong, sum_none, sum_swap, sum_hot, sum_mono}

ones : (k : ℕ) → sum nats (λ i. 1) k ≡ k
unfolding sum
ones zero = refl
ones (suc k) = omega (arith, ones k)

module _ (f : ℕ → ℕ) where
  -- how often v is one of the first m
  abbrev times : ℕ → ℕ → ℕ
  times v m = sum nats (λ k. only nats (eqb (f k) v) 1) m

  abbrev NoTwoBelow : ℕ → Type 0
  NoTwoBelow m = (j k : ℕ) → j < k → k < m → f j ≡ f k → ⊥

  at_most_once : (v m : ℕ) → NoTwoBelow m → times v m ≤ 1
  unfolding sum
  at_most_once v zero h = zero-le
  at_most_once v (suc m) h = go (eqb (f m) v) refl (at_most_once v m (λ j k l r. h j k l (omega arith)))
    where
      none : eqb (f m) v ≡ true → times v m ≡ 0
      none e = sum_none nats (λ k. only nats (eqb (f k) v) 1) m
          (λ k l. ap (λ (b : Bool). only nats b 1) (ne_eqb (f k) v (λ x. h k m l (omega arith) (x ∙ sym (eqb-true (f m) v e)))))

      go : (b : Bool) → eqb (f m) v ≡ b → times v m ≤ 1 → times v m + only nats b 1 ≤ 1
      go true e ih = omega (arith, none e)
      go false e ih = omega arith

  pub at_most : (m n : ℕ) → ((k : ℕ) → k < m → f k < n) → NoTwoBelow m → m ≤ n
  at_most m n h d =
      omega (
        arith,
        ones m,
        ones n,
        sum_cong nats (λ k. sum nats (λ v. only nats (eqb (f k) v) 1) n) (λ k. 1) m (λ k l. sum_hot nats (f k) 1 n ∙ ap (λ (b : Bool). only nats b 1) (lt-ltb (f k) n (h k l))),
        sum_swap nats (λ k v. only nats (eqb (f k) v) 1) m n,
        sum_mono (λ v. times v m) (λ v. 1) n (λ v l. at_most_once v m d),
      )

  -- ---- of more numbers than n, two are alike
  abbrev Twice : ℕ → Type 0
  Twice m = (j : ℕ) × (k : ℕ) × (j < k) × (k < m) × (f j ≡ f k)

  abbrev Never : ℕ → ℕ → Type 0
  Never m v = (j : ℕ) → j < m → f j ≡ v → ⊥

  seek : (v m : ℕ) → ((j : ℕ) × (j < m) × (f j ≡ v)) ⊎ Never m v
  seek v zero = inr (λ j h e. omega arith)
  seek v (suc m) = go (ℕ_discrete (f m) v) (seek v m)
    where
      go : Dec (f m ≡ v) → ((j : ℕ) × (j < m) × (f j ≡ v)) ⊎ Never m v → ((j : ℕ) × (j < suc m) × (f j ≡ v)) ⊎ Never (suc m) v
      go (yes e) s = inl (m, omega arith, e)
      go (no e) (inl w) = inl (w.0, omega (arith, w.1), w.2)
      go (no e) (inr s) = inr (λ j h q. at j h q (ℕ_discrete j m))
        where
          at : (j : ℕ) → j < suc m → f j ≡ v → Dec (j ≡ m) → ⊥
          at j h q (yes z) = e (ap f (sym z) ∙ q)
          at j h q (no z) = s j (omega arith) q

  two_alike : (m : ℕ) → Twice m ⊎ NoTwoBelow m
  two_alike zero = inr (λ j k h l e. omega arith)
  two_alike (suc m) = go (two_alike m) (seek (f m) m)
    where
      go : Twice m ⊎ NoTwoBelow m → ((j : ℕ) × (j < m) × (f j ≡ f m)) ⊎ Never m (f m) → Twice (suc m) ⊎ NoTwoBelow (suc m)
      go (inl w) s = inl (w.0, w.1, w.2, omega (arith, w.3), w.4)
      go (inr d) (inl w) = inl (w.0, m, w.1, omega arith, w.2)
      go (inr d) (inr s) = inr (λ j k h l e. at j k h l e (ℕ_discrete k m))
        where
          at : (j k : ℕ) → j < k → k < suc m → f j ≡ f k → Dec (k ≡ m) → ⊥
          at j k h l e (yes z) = s j (omega arith) (e ∙ ap f z)
          at j k h l e (no z) = d j k h (omega arith) e

  pub pigeons : (n : ℕ) → ((k : ℕ) → k < suc n → f k < n) → Twice (suc n)
  pigeons n h = ⊎_elim (λ w. w) (λ d. absurd (omega (arith, at_most (suc n) n h d))) (two_alike (suc n))
