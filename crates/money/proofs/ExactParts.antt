-- Two words as one number: what `omega` reads of it, sums with a carry and differences with a borrow. Assumes nothing.
use Rattle.std.proofs.Common.{◌≡◌, ℕ, zero, suc, ◌+◌, ◌*◌, ◌^◌, ◌<◌, ◌≤◌, min, true, false, ℤ, pos, negsuc, ◌+ℤ◌, ◌-ℤ◌, ◌*ℤ◌, sym, refl, ap, ◌∙◌, arith, w64, SFits, to_z, of_z, ltb-false, ltb-true, leb-false, leb-true}
use native.Mathlib.Decide.{dec_lt}
use lib.Signed.{mag}
use Rattle.integer.specs.Linear.{plus, minus, linear, apart, sum, dif, abs, within, seen, back_plus, back_minus, back}
use Rattle.integer.specs.Signs.{Parts, neg_parts}
use Rattle.money.specs.declared.exact.Exact.{Exact}
use Rattle.money.specs.Words.{of_bits}
use Rattle.money.specs.Exact.{value_of, is_word, IsSmall}
use Rattle.money.proofs.Bits.{low, high}
use Rattle.money.proofs.ExactWords.{word_above, word_below, word_out}

-- ---- the parts of two words
times : (h : ℤ) (m : ℕ) → Parts (h *ℤ pos m) (plus h * m) (minus h * m)
times (pos a) m = record { up = refl; down = omega arith }
times (negsuc a) m = let p = neg_parts (suc a * m) in record { up = omega (arith, p); down = omega (arith, p) }

pub record Whole (w : Exact) : Type 0 where
  pub parts : plus (value_of w) + minus w.high * 2 ^ 64 ≡ plus w.high * 2 ^ 64 + w.low + minus (value_of w)
  pub one : min (plus (value_of w)) (minus (value_of w)) ≡ 0

pub whole : (w : Exact) → Whole w
whole w =
    let h = w.high *ℤ pos (2 ^ 64) in
    record { parts = omega (arith, sum h (pos w.low), times w.high (2 ^ 64)); one = apart (value_of w) }

-- ---- sums and differences: k is what is carried, or borrowed
carried : (a b : Exact) (k r : ℕ) (h : ℤ) → h ≡ a.high +ℤ b.high +ℤ pos k → a.low + b.low ≡ k * 2 ^ 64 + r
    → value_of (record { high = h; low = r }) ≡ value_of a +ℤ value_of b
carried a b k r h e l =
    omega (linear, whole a, whole b, whole (record { high = h; low = r }), sum a.high b.high, sum (a.high +ℤ b.high) (pos k), sum (value_of a) (value_of b))

borrowed : (a b : Exact) (k r : ℕ) (h : ℤ) → h ≡ a.high -ℤ b.high -ℤ pos k → k * 2 ^ 64 + a.low ≡ b.low + r
    → value_of (record { high = h; low = r }) ≡ value_of a -ℤ value_of b
borrowed a b k r h e l =
    omega (linear, whole a, whole b, whole (record { high = h; low = r }), dif a.high b.high, dif (a.high -ℤ b.high) (pos k), dif (value_of a) (value_of b))

-- ---- the high word of a small number, as the machine reads it
pub record Near (w : Exact) : Type 0 where
  pub up : plus (seen w64 w.high) ≡ plus w.high
  pub down : minus (seen w64 w.high) ≡ minus w.high
  pub size : plus w.high + minus w.high ≤ 2 ^ 36
  pub part : w.low < 2 ^ 64

pub near : (w : Exact) → mag w.high < 2 ^ 63 → w.low < 2 ^ 64 → IsSmall (value_of w) → Near w
near w f l s =
    let g : SFits w64 w.high = record { sfits = f } in
    record { up = back_plus g; down = back_minus g; size = omega (arith, whole w, abs (value_of w), apart w.high); part = l }

-- ---- as the machine works them out on small numbers
module _ {a b : Exact} (p : Near a) (q : Near b) where
  abbrev x : ℤ
  x = seen w64 a.high

  abbrev y : ℤ
  y = seen w64 b.high

  pub sum_fits : SFits w64 (x +ℤ y)
  sum_fits = omega (linear, p, q, sum x y)

  pub carry_fits : SFits w64 (seen w64 (x +ℤ y) +ℤ pos 1)
  carry_fits = omega (linear, p, q, sum x y, within sum_fits, sum (seen w64 (x +ℤ y)) (pos 1))

  pub sum_is : (r : ℕ) → a.low + b.low ≡ r → value_of (record { high = seen w64 (x +ℤ y); low = r }) ≡ value_of a +ℤ value_of b
  sum_is r l = carried a b 0 r (seen w64 (x +ℤ y)) (omega (linear, p, q, sum x y, within sum_fits, sum a.high b.high, sum (a.high +ℤ b.high) (pos 0))) (omega arith)

  pub carry_is : (r : ℕ) → a.low + b.low ≡ 2 ^ 64 + r → value_of (record { high = seen w64 (seen w64 (x +ℤ y) +ℤ pos 1); low = r }) ≡ value_of a +ℤ value_of b
  carry_is r l =
      carried a b 1 r (seen w64 (seen w64 (x +ℤ y) +ℤ pos 1))
      (omega (linear, p, q, sum x y, within sum_fits, sum (seen w64 (x +ℤ y)) (pos 1), within carry_fits, sum a.high b.high, sum (a.high +ℤ b.high) (pos 1)))
      (omega arith)

  pub difference_fits : SFits w64 (x -ℤ y)
  difference_fits = omega (linear, p, q, dif x y)

  pub borrow_fits : SFits w64 (seen w64 (x -ℤ y) -ℤ pos 1)
  borrow_fits = omega (linear, p, q, dif x y, within difference_fits, dif (seen w64 (x -ℤ y)) (pos 1))

  pub difference_is : (r : ℕ) → a.low ≡ b.low + r → value_of (record { high = seen w64 (x -ℤ y); low = r }) ≡ value_of a -ℤ value_of b
  difference_is r l = borrowed a b 0 r (seen w64 (x -ℤ y)) (omega (linear, p, q, dif x y, within difference_fits, dif a.high b.high, dif (a.high -ℤ b.high) (pos 0))) (omega arith)

  pub borrow_is : (r : ℕ) → 2 ^ 64 + a.low ≡ b.low + r → value_of (record { high = seen w64 (seen w64 (x -ℤ y) -ℤ pos 1); low = r }) ≡ value_of a -ℤ value_of b
  borrow_is r l =
      borrowed a b 1 r (seen w64 (seen w64 (x -ℤ y) -ℤ pos 1))
      (omega (linear, p, q, dif x y, within difference_fits, dif (seen w64 (x -ℤ y)) (pos 1), within borrow_fits, dif a.high b.high, dif (a.high -ℤ b.high) (pos 1)))
      (omega arith)

-- ---- numbers of 64 bits
-- what `omega` reads of a test on the low word
pub ruleset tests = (arith, ltb-true, ltb-false, leb-true, leb-false)

-- a high word that is compared by its bits
pub high_is : {h z : ℤ} → mag h < 2 ^ 63 → mag z < 2 ^ 63 → of_z w64 h ≡ of_z w64 z → h ≡ z
high_is {h} {z} f g e = sym (back w64 h f) ∙ ap (to_z w64) e ∙ back w64 z g

far_up : (w : Exact) → 0 < plus w.high → 2 ^ 63 ≤ plus (value_of w)
far_up w h = omega (arith, whole w, apart w.high)

far_down : (w : Exact) → w.low < 2 ^ 64 → 1 < minus w.high → 2 ^ 63 < minus (value_of w)
far_down w l h = omega (arith, whole w, apart w.high)

pub high_other : (h : ℤ) (l : ℕ) → l < 2 ^ 64 → (of_z w64 h ≡ 0 → ⊥) → (of_z w64 h ≡ 0xffff_ffff_ffff_ffff → ⊥) → is_word (value_of (record { high = h; low = l })) ≡ false
high_other (pos zero) l f p q = absurd (p refl)
high_other (pos (suc n)) l f p q = let w : Exact = record { high = pos (suc n); low = l } in word_out (value_of w) (omega (arith, far_up w (omega arith)))
high_other (negsuc zero) l f p q = absurd (q refl)
high_other (negsuc (suc n)) l f p q = let w : Exact = record { high = negsuc (suc n); low = l } in word_out (value_of w) (omega (arith, far_down w f (omega arith)))

pub same_number : (w : Exact) → w.low < 2 ^ 64 → is_word (value_of w) ≡ true → of_bits w.low ≡ value_of w
same_number w l e = go (dec_lt w.low (2 ^ 63))
  where
    go : Dec (w.low < 2 ^ 63) → of_bits w.low ≡ value_of w
    go (yes k) = low w.low k ∙ omega (linear, whole w, word_above (value_of w) e, word_below (value_of w) e)
    go (no k) = high w.low (omega arith) ∙ omega (linear, whole w, word_above (value_of w) e, word_below (value_of w) e)
