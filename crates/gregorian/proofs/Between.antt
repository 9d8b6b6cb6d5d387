-- What a range's `contains` answers, at numbers without a sign and with one. Assumes nothing.
use Rattle.std.proofs.Common.{◌≡◌, ℕ, ◌<◌, Bool, true, false, cond, ℤ, pos, negsuc, ltb, leb, Less, Greater, Equal, refl, arith, lt-ltb, le-ltb}
use Rattle.std.specs.Ordering.{is_le, nat_cmp, int_cmp}
use Rattle.std.specs.Int.Signed.{le_z}
use native.Mathlib.Decide.{dec_lt, ℕ_discrete}
use borrow.Author.Tests.{le-leb, lt-leb, eq-eqb, ne_eqb}

pub not_more : (a b : ℕ) → is_le (nat_cmp a b) ≡ leb a b
not_more a b = go (dec_lt a b) (ℕ_discrete a b)
  where
    go : Dec (a < b) → Dec (a ≡ b) → is_le (nat_cmp a b) ≡ leb a b
    go (yes h) e = rw (lt-ltb a b h, le-leb a b (omega arith))
    go (no h) (yes e) = rw (le-ltb a b (omega arith), eq-eqb a b e, le-leb a b (omega arith))
    go (no h) (no e) = rw (le-ltb a b (omega arith), ne_eqb a b e, lt-leb a b (omega arith))

counts : (a b : ℕ) → is_le (cond (ltb a b) Less (cond (ltb b a) Greater Equal)) ≡ leb a b
counts a b = go (dec_lt b a)
  where
    either : (t : Bool) → is_le (cond t Less Equal) ≡ true
    either true = refl
    either false = refl

    go : Dec (b < a) → is_le (cond (ltb a b) Less (cond (ltb b a) Greater Equal)) ≡ leb a b
    go (yes h) = rw (lt-ltb b a h, le-ltb a b (omega arith), lt-leb a b h)
    go (no h) = rw (le-ltb b a (omega arith), le-leb a b (omega arith)) (either (ltb a b))

pub not_after : (a b : ℤ) → is_le (int_cmp a b) ≡ le_z a b
not_after (pos a) (pos b) = counts a b
not_after (pos a) (negsuc b) = refl
not_after (negsuc a) (pos b) = refl
not_after (negsuc a) (negsuc b) = counts b a
