-- Signed numbers in a range against their counts from below it.
-- Assumes nothing.
use Prim.Native.Nat.{ℕ, suc, ◌≤◌, ◌<◌}
use mathlib.Core.Path.{◌≡◌, refl, sym, ap, ◌∙◌}
use mathlib.Core.Bool.{Bool, true, false}
use lib.Dec.{T}
use lib.IntN.{ℤ, pos, ◌+ℤ◌, ◌-ℤ◌}
use lib.Signed.{◌≤ℤ◌, le_z}
use mir.Syntax.{w32}
use mir.Val.{SFits, to_z, of_z}
use mir.Facts.{to_z-of_z}
use Rattle.integer.specs.Linear.{linear, sum, dif, abs, apart}
use Rattle.gregorian.specs.Count.{between, counted, signed}
use Rattle.gregorian.proofs.Laws.{and_both}

pub between_true : (low high z : ℤ) → between low high z ≡ true → (low ≤ℤ z) × (z ≤ℤ high)
unfolding between
between_true low high z e = let t = and_both (le_z low z) (le_z z high) e in omega linear

pub is_true : (b : Bool) → T b → b ≡ true
is_true true t = refl
is_true false t = absurd t

between_in : (low high z : ℤ) → low ≤ℤ z → z ≤ℤ high → between low high z ≡ true
unfolding between
between_in low high z h k = rw (is_true (le_z low z) h.le, is_true (le_z z high) k.le)

pub counted_signed : (a n : ℕ) → counted a (signed a n) ≡ n
unfolding counted signed
counted_signed a n =
    let s = pos n -ℤ pos a in
    omega (linear, abs (s +ℤ pos a), apart (s +ℤ pos a), sum s (pos a), dif (pos n) (pos a))

-- what is known of the count of z, from lo to hi
pub record Within (a lo hi : ℕ) (z : ℤ) : Type 0 where
  pub from : lo ≤ counted a z
  pub upto : counted a z ≤ hi
  pub back : signed a (counted a z) ≡ z

module _ (a lo hi : ℕ) where
  pub within : (z : ℤ) → between (signed a lo) (signed a hi) z ≡ true → Within a lo hi z
  unfolding counted signed
  within z e =
      let b = between_true (pos lo -ℤ pos a) (pos hi -ℤ pos a) z e in
      let x = z +ℤ pos a in
      omega (linear, abs x, apart x, sum z (pos a), dif (pos lo) (pos a), dif (pos hi) (pos a), dif (pos (counted a z)) (pos a))

  pub in_range_lem : (n : ℕ) → lo ≤ n → n ≤ hi → between (signed a lo) (signed a hi) (signed a n) ≡ true
  unfolding signed
  in_range_lem n h k =
      between_in (pos lo -ℤ pos a) (pos hi -ℤ pos a) (pos n -ℤ pos a) (omega (linear, dif (pos lo) (pos a), dif (pos n) (pos a))) (omega (linear, dif (pos n) (pos a), dif (pos hi) (pos a)))

-- what the code's count of z wants
pub room : (a lo hi : ℕ) (z : ℤ) → a < 8000000 → hi < 8000000 → Within a lo hi z → (a < 8000000) × ((pos 0 ≤ℤ (z +ℤ pos a)) × (z ≤ℤ pos 8000000))
unfolding signed
room a lo hi z h k w = omega (linear, w.back, w.upto, sum z (pos a), dif (pos (counted a z)) (pos a))

pub next_count : (a lo hi : ℕ) (z : ℤ) → Within a lo hi z → counted a (z +ℤ pos 1) ≡ suc (counted a z)
unfolding counted signed
next_count a lo hi z w =
    let x = z +ℤ pos a in
    let x' = z +ℤ pos 1 +ℤ pos a in
    omega (linear, w.back, sum z (pos a), sum (z +ℤ pos 1) (pos a), sum z (pos 1), dif (pos (counted a z)) (pos a), abs x, apart x, abs x', apart x')

-- a test of a signed argument, as the code makes it
pub tested : (p : ℤ → Bool) {z : ℤ} {r b : Bool} → SFits w32 z → r ≡ p (to_z w32 (of_z w32 z)) → r ≡ b → p z ≡ b
tested p f e t = ap p (sym (to_z-of_z f)) ∙ sym e ∙ t
