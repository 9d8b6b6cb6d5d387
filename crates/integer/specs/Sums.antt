-- Exact sums, in ℕ and in ℤ: one set of laws for both. Assumes nothing.
use Rattle.std.specs.Prelude.{◌≡◌, Bool, cond, List, [], ◌∷◌, ℤ, pos, nat_abs, ◌+ℤ◌}
use Rattle.std.proofs.Math.Path.{refl, sym, ap, ap₂}
use Rattle.std.proofs.Common.{◌∙◌, zero-add, add-zero}
use Rattle.std.proofs.Math.Bool.{true, false}
use Prim.Native.Nat.{ℕ, zero, suc, ◌+◌, ◌≤◌, ◌<◌, zero-le}
use native.Mathlib.Omega.{arith}
use Rattle.std.proofs.Math.Decide.{dec_lt}
use borrow.Author.Tests.{eqb-true, eqb-false, lt-ltb, le-ltb, ltb-true, ltb-false}
use Rattle.std.proofs.Math.Dec.{ltb, eqb, leb-suc-zero}
use Rattle.std.proofs.Math.IntN.{+ℤ_idl, +ℤ_idr}
use Rattle.integer.specs.Linear.{linear, sum as add_parts, abs, apart}

-- what can be added, in any order
pub record Adds (A : Type 0) : Type 0 where
  pub op : A → A → A
  pub unit : A
  pub idl : (a : A) → op unit a ≡ a
  pub idr : (a : A) → op a unit ≡ a
  pub four : (a b c d : A) → op (op a b) (op c d) ≡ op (op a c) (op b d)

pub four_ints : (a b c d : ℤ) → (a +ℤ b) +ℤ (c +ℤ d) ≡ (a +ℤ c) +ℤ (b +ℤ d)
four_ints a b c d = omega (linear, add_parts a b, add_parts c d, add_parts (a +ℤ b) (c +ℤ d), add_parts a c, add_parts b d, add_parts (a +ℤ c) (b +ℤ d))

abbrev pub ints : Adds ℤ
ints = record { op = ◌+ℤ◌; unit = pos 0; idl = +ℤ_idl; idr = +ℤ_idr; four = four_ints }

pub four_nats : (a b c d : ℕ) → (a + b) + (c + d) ≡ (a + c) + (b + d)
four_nats a b c d = omega arith

abbrev pub nats : Adds ℕ
nats = record { op = ◌+◌; unit = 0; idl = zero-add; idr = add-zero; four = four_nats }

-- f 0 + .. + f (k − 1)
unfoldable pub sum : {A : Type 0} → Adds A → (ℕ → A) → ℕ → A
sum m f zero = m.unit
sum m f (suc k) = m.op (sum m f k) (f k)

-- the numbers of a list
unfoldable pub total : {A : Type 0} → Adds A → List A → A
total m [] = m.unit
total m (x ∷ xs) = m.op x (total m xs)

-- a summand where the test holds
abbrev pub only : {A : Type 0} → Adds A → Bool → A → A
only m c a = cond c a m.unit

module _ {A : Type 0} (m : Adds A) where
  pub sum_cong : (f g : ℕ → A) (k : ℕ) → ((i : ℕ) → i < k → f i ≡ g i) → sum m f k ≡ sum m g k
  unfolding sum
  sum_cong f g zero h = refl
  sum_cong f g (suc k) h = ap₂ m.op (sum_cong f g k (λ i l. h i (omega arith))) (h k (omega arith))

  pub sum_none : (f : ℕ → A) (k : ℕ) → ((i : ℕ) → i < k → f i ≡ m.unit) → sum m f k ≡ m.unit
  unfolding sum
  sum_none f zero h = refl
  sum_none f (suc k) h = ap₂ m.op (sum_none f k (λ i l. h i (omega arith))) (h k (omega arith)) ∙ m.idl m.unit

  pub sum_both : (f g : ℕ → A) (k : ℕ) → sum m (λ i. m.op (f i) (g i)) k ≡ m.op (sum m f k) (sum m g k)
  unfolding sum
  sum_both f g zero = sym (m.idl m.unit)
  sum_both f g (suc k) = ap (λ (z : A). m.op z (m.op (f k) (g k))) (sum_both f g k) ∙ m.four (sum m f k) (sum m g k) (f k) (g k)

  -- a table summed by rows and by columns
  pub sum_swap : (f : ℕ → ℕ → A) (r c : ℕ) → sum m (λ i. sum m (f i) c) r ≡ sum m (λ j. sum m (λ i. f i j) r) c
  unfolding sum
  sum_swap f zero c = sym (sum_none (λ i. m.unit) c (λ i l. refl))
  sum_swap f (suc r) c = ap (λ (z : A). m.op z (sum m (f r) c)) (sum_swap f r c) ∙ sym (sum_both (λ j. sum m (λ i. f i j) r) (f r) c)

  -- one summand of k
  pub sum_hot : (d : ℕ) (v : A) (k : ℕ) → sum m (λ e. only m (eqb d e) v) k ≡ only m (ltb d k) v
  unfolding sum
  sum_hot d v zero = ap (λ (b : Bool). only m b v) (sym (leb-suc-zero d))
  sum_hot d v (suc k) = ap (λ (z : A). m.op z (only m (eqb d k) v)) (sum_hot d v k) ∙ go (eqb d k) (ltb d k) refl refl
    where
      go : (e l : Bool) → eqb d k ≡ e → ltb d k ≡ l → m.op (only m l v) (only m e v) ≡ only m (ltb d (suc k)) v
      go true true x y = absurd (omega (arith, eqb-true d k x, ltb-true d k y))
      go true false x y = m.idl v ∙ ap (λ (b : Bool). only m b v) (sym (lt-ltb d (suc k) (omega (arith, eqb-true d k x))))
      go false true x y = m.idr v ∙ ap (λ (b : Bool). only m b v) (sym (lt-ltb d (suc k) (omega (arith, ltb-true d k y))))
      go false false x y = m.idl m.unit ∙ ap (λ (b : Bool). only m b v) (sym (le-ltb d (suc k) (past (eqb-false d k x) (ltb-false d k y))))
        where
          past : (d ≡ k → ⊥) → k ≤ d → suc k ≤ d
          past p q = omega arith

pub sum_mono : (f g : ℕ → ℕ) (k : ℕ) → ((i : ℕ) → i < k → f i ≤ g i) → sum nats f k ≤ sum nats g k
unfolding sum
sum_mono f g zero h = zero-le
sum_mono f g (suc k) h = omega (arith, sum_mono f g k (λ i l. h i (omega arith)), h k (omega arith))

-- the magnitude of a sum
pub abs_plus : (a b : ℤ) → nat_abs (a +ℤ b) ≤ nat_abs a + nat_abs b
abs_plus a b = omega (arith, add_parts a b, abs a, abs b, abs (a +ℤ b), apart (a +ℤ b))

pub abs_sum : (f : ℕ → ℤ) (k : ℕ) → nat_abs (sum ints f k) ≤ sum nats (λ i. nat_abs (f i)) k
unfolding sum
abs_sum f zero = zero-le
abs_sum f (suc k) = omega (arith, abs_sum f k, abs_plus (sum ints f k) (f k))

pub sum_term : (f : ℕ → ℕ) (k i : ℕ) → i < k → f i ≤ sum nats f k
unfolding sum
sum_term f zero i h = absurd (omega arith)
sum_term f (suc k) i h = go (dec_lt i k) (λ l. sum_term f k i l)
  where
    go : Dec (i < k) → (i < k → f i ≤ sum nats f k) → f i ≤ sum nats f k + f k
    go (yes l) ih = omega (arith, ih l)
    go (no l) ih = let same : i ≡ k = omega arith in omega (arith, ap f same)
