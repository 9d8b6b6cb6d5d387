-- Lists that rise.
use Prim.Native.Nat.{ℕ, zero, suc, ◌≤◌, ◌<◌}
use mathlib.Core.Path.{◌≡◌, refl, sym, ap₂}
use mathlib.Core.Logic.{⊎_elim}
use mathlib.Core.Bool.{Bool, true, false}
use mathlib.Core.List.Memᴰ
use mathlib.Core.List.{List, [], ◌∷◌, Memᴰ}
use native.Mathlib.Omega.{arith}
use lib.ListN.{length, get_or}
use Rattle.lists.specs.Lists.{span, cons_if, keep}
use Rattle.lists.proofs.Lists.{first_at_lem, keep_all}
use Rattle.lists.proofs.Distinct.{Distinct}
use Rattle.format.specs.InRange.{Rising}

keep_from : (p : ℕ → Bool) (a n k : ℕ) → k < length (keep p (span a n)) → a ≤ get_or (keep p (span a n)) k 0
unfolding span keep
keep_from p a zero k h = absurd (omega arith)
keep_from p a (suc n) k h = go (p a) (keep_from p (suc a) n) k h
  where
    go : (b : Bool) → ((k : ℕ) → k < length (keep p (span (suc a) n)) → suc a ≤ get_or (keep p (span (suc a) n)) k 0)
        → (k : ℕ) → k < length (cons_if b a (keep p (span (suc a) n))) → a ≤ get_or (cons_if b a (keep p (span (suc a) n))) k 0
    go false ih k h = omega (arith, ih k h)
    go true ih zero h = omega arith
    go true ih (suc k) h = omega (arith, ih k (omega arith))

pub keep_rises : (p : ℕ → Bool) (a n : ℕ) → Rising (keep p (span a n))
unfolding span keep
keep_rises p a zero j k m l = absurd (omega arith)
keep_rises p a (suc n) j k m l = go (p a) (keep_rises p (suc a) n) j k m l
  where
    go : (b : Bool) → Rising (keep p (span (suc a) n)) → Rising (cons_if b a (keep p (span (suc a) n)))
    go false r j k m l = r j k m l
    go true r zero zero m l = absurd (omega arith)
    go true r zero (suc k) m l = keep_from p (suc a) n k (omega arith)
    go true r (suc j) zero m l = absurd (omega arith)
    go true r (suc j) (suc k) m l = r j k (omega arith) (omega arith)

pub span_rises : (a n : ℕ) → Rising (span a n)
span_rises a n = rw (← keep_all (λ d. true) (span a n) (λ d m. refl)) (keep_rises (λ d. true) a n)

-- ---- a rising list is known by what it holds
module _ (x : ℕ) (xs : List ℕ) (r : Rising (x ∷ xs)) where
  pub rest_rises : Rising xs
  rest_rises j k h l = r (suc j) (suc k) (omega arith) (omega arith)

  pub least : (d : ℕ) → Memᴰ d xs → x < d
  least d m = let f = first_at_lem d xs m in omega (arith, f.here, r 0 (suc f.at) (omega arith) (omega (arith, f.inside)))

pub rising_same : (xs ys : List ℕ) → Rising xs → Rising ys → ((d : ℕ) → Memᴰ d xs → Memᴰ d ys) → ((d : ℕ) → Memᴰ d ys → Memᴰ d xs) → xs ≡ ys
rising_same [] [] r s f g = refl
rising_same [] (y ∷ ys) r s f g = absurd (Memᴰ.not-nil (g y (Memᴰ.head refl)))
rising_same (x ∷ xs) [] r s f g = absurd (Memᴰ.not-nil (f x (Memᴰ.head refl)))
rising_same (x ∷ xs) (y ∷ ys) r s f g =
    ap₂ ◌∷◌ same
    (rising_same xs ys (rest_rises x xs r) (rest_rises y ys s)
    (λ d m. inner (f d (Memᴰ.tail m)) (λ e. omega (arith, same, least x xs r d m)))
    (λ d m. inner (g d (Memᴰ.tail m)) (λ e. omega (arith, same, least y ys s d m))))
  where
    same : x ≡ y
    same = ⊎_elim (λ e. e) (λ m. ⊎_elim sym (λ n. absurd (omega (arith, least y ys s x m, least x xs r y n))) (Memᴰ.cases_cons (g y (Memᴰ.head refl)))) (Memᴰ.cases_cons (f x (Memᴰ.head refl)))

    inner : {d z : ℕ} {zs : List ℕ} → Memᴰ d (z ∷ zs) → (d ≡ z → ⊥) → Memᴰ d zs
    inner m h = ⊎_elim (λ e. absurd (h e)) (λ n. n) (Memᴰ.cases_cons m)

pub rising_distinct : (xs : List ℕ) → Rising xs → Distinct xs
rising_distinct [] r = tt
rising_distinct (x ∷ xs) r = (λ m. omega (arith, least x xs r x m), rising_distinct xs (rest_rises x xs r))
