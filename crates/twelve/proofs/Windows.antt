-- The window over the months, and the sums that it gives one after the other.
use Prim.Native.Nat.{ℕ, ◌+◌, ◌-◌, ◌≤◌, ◌<◌}
use mathlib.Core.Path.{◌≡◌, sym, ap, ap₂, ◌∙◌, subst}
use mathlib.Core.Bool.{true, false, not}
use mathlib.Core.List.{List, map, Memᴰ}
use native.Mathlib.Omega.{arith}
use native.Mathlib.Decide.{ℕ_discrete}
use lib.IntN.{ℤ, pos, ◌+ℤ◌, ◌-ℤ◌}
use lib.ListN.{length, get_or, set, length-map, length-set}
use lib.Seq.{ext_get_or, get_or-set_same, get_or-set_other}
use Rattle.integer.specs.Linear.{linear, sum, dif, abs, apart}
use Rattle.lists.specs.Lists.{span}
use Rattle.lists.proofs.Lists.{in_any, any_none}
use Rattle.lists.proofs.Spans.{span_length, span_in_lem, in_span, made_from}
use Rattle.months.specs.Months.{january2000}
use Rattle.money.specs.Exact.{is_word, IsSmall}
use Rattle.model.specs.TwelveMonths.{Monthly, month_sum, twelve_sum, months, are_words}
use Rattle.model.proofs.TwelveMonths.{twelve_next, twelve_none}
use Rattle.twelve.specs.declared.listed.Listed.{Listed}
use Rattle.twelve.specs.Parts.{IsWithin}
use Rattle.twelve.specs.Listed.{month_at, month_before, StartsAt, AreListed, listed_from}

-- ---- how large

pub within_sum : (a b : ℕ) (x y : ℤ) {z : ℤ} → IsWithin a x → IsWithin b y → z ≡ x +ℤ y → IsWithin (a + b) z
unfolding IsWithin
within_sum a b x y {z} h k e = omega (linear, h, k, e, sum x y, abs x, abs y, abs z, apart z, apart (x +ℤ y))

pub within_dif : (a b : ℕ) (x y : ℤ) {z : ℤ} → IsWithin a x → IsWithin b y → z ≡ x -ℤ y → IsWithin (a + b) z
unfolding IsWithin
within_dif a b x y {z} h k e = omega (linear, h, k, e, dif x y, abs x, abs y, abs z, apart z, apart (x -ℤ y))

pub within_more : (a b : ℕ) (z : ℤ) → a ≤ b → IsWithin a z → IsWithin b z
unfolding IsWithin
within_more a b z h w = omega (arith, h, w)

pub within_small : (a : ℕ) (z : ℤ) → a ≤ 2400 → IsWithin a z → IsSmall z
unfolding IsWithin
within_small a z h w = omega (arith, h, w)

-- ---- moved on by a month

module _ (xs : List Monthly) where
  -- a month is taken in
  module _ {window month wider : ℤ} (i : ℕ) (is : window ≡ twelve_sum xs (month_before i)) (new : month ≡ month_sum xs (january2000 + i)) (e : wider ≡ window +ℤ month) where
    moved : twelve_sum xs (january2000 + i) ≡ wider -ℤ month_sum xs (january2000 + i - 12)
    moved =
        let m = month_before i in
        let here : january2000 + i ≡ m + 1 = omega arith in
        let old : january2000 + i - 12 ≡ m - 11 = omega arith in
        ap (twelve_sum xs) here
        ∙ twelve_next xs m
        ∙ ap₂ ◌-ℤ◌ (ap₂ ◌+ℤ◌ (sym is) (ap (month_sum xs) (sym here) ∙ sym new) ∙ sym e) (ap (month_sum xs) (sym old))

    -- nothing has to be dropped where the window begins with the first month
    pub moved_on : (first : ℕ) → StartsAt xs first → i < first + 12 → wider ≡ twelve_sum xs (january2000 + i)
    moved_on first starts h =
        let none = starts (january2000 + i - 12) (omega arith) in
        omega (linear, moved, none, dif wider (month_sum xs (january2000 + i - 12)))

    -- else one is dropped
    pub moved_past : {old r : ℤ} → 12 ≤ i → old ≡ month_sum xs (january2000 + (i - 12)) → r ≡ wider -ℤ old → r ≡ twelve_sum xs (january2000 + i)
    moved_past {old} {r} h o q =
        let at : january2000 + i - 12 ≡ january2000 + (i - 12) = omega arith in
        q ∙ ap (λ (z : ℤ). wider -ℤ z) (o ∙ ap (month_sum xs) (sym at)) ∙ sym moved

-- ---- one after the other

-- these months under the count of the sums
pub listed_long_lem : {xs : List Monthly} {r : Listed} {n : ℕ} → AreListed xs r → r.count ≡ n → AreListed xs (listed_from r.first n)
listed_long_lem {xs} {r} w e = subst (λ (k : ℕ). AreListed xs (listed_from r.first k)) e w

-- what the loop keeps: of the months from `first` on the sums of the first k are written, and all are of 64 bits; the window is at the month before the next
module _ (xs : List Monthly) (first n : ℕ) where
  pub record Summing (k : ℕ) (window : ℤ) (sums : List ℤ) : Type 0 where
    pub most : k ≤ n
    pub long : length sums ≡ n
    pub at : window ≡ twelve_sum xs (month_before (first + k))
    pub small : IsWithin (first + k + (first + k)) window
    pub written : (j : ℕ) → j < k → get_or sums j (pos 0) ≡ twelve_sum xs (month_at first j)
    pub words : (j : ℕ) → j < k → is_word (twelve_sum xs (month_at first j)) ≡ true

  module _ (w : AreListed xs (listed_from first n)) where
    pub summing_none : (sums : List ℤ) → length sums ≡ n → Summing 0 (pos 0) sums
    unfolding IsWithin
    summing_none sums e = record {
      most = omega arith;
      long = e;
      at = sym (twelve_none xs (month_before (first + 0)) (λ m h. w.starts m (omega arith)));
      small = omega arith;
      written = λ j h. absurd (omega arith);
      words = λ j h. absurd (omega arith);
    }

    -- a month of these
    pub in_months : (k : ℕ) → k < n → Memᴰ (month_at first k) (months xs)
    in_months k h = rw w.spanned (in_span (january2000 + first) n (month_at first k) (omega arith) (omega arith))

    -- a sum that is not of 64 bits
    pub summing_fails : {k : ℕ} {next : ℤ} → k < n → next ≡ twelve_sum xs (month_at first k) → is_word next ≡ false → are_words xs ≡ false
    unfolding are_words
    summing_fails {k} h e f = ap not (in_any (λ (m : ℕ). not (is_word (twelve_sum xs m))) (month_at first k) (months xs) (in_months k h) (ap not (ap is_word (sym e) ∙ f)))

    module _ {k : ℕ} {window : ℤ} {sums : List ℤ} (s : Summing k window sums) where
      pub summing_more :
          {next : ℤ} {sums' : List ℤ} → k < n → next ≡ twelve_sum xs (month_at first k) → IsWithin (first + k + (first + k) + 2) next → is_word next ≡ true → sums' ≡ set sums k next →
          Summing (k + 1) next sums'
      summing_more {next} h e small word p = record {
        most = omega arith;
        long = ap length p ∙ length-set sums k next ∙ s.long;
        at = let m : month_at first k ≡ month_before (first + (k + 1)) = omega arith in e ∙ ap (twelve_sum xs) m;
        small = let twice : first + k + (first + k) + 2 ≡ first + (k + 1) + (first + (k + 1)) = omega arith in rw (← twice) small;
        written = λ j l. ap (λ (t : List ℤ). get_or t j (pos 0)) p ∙ put j l (ℕ_discrete j k);
        words = λ j l. held j l (ℕ_discrete j k);
      }
        where
          put : (j : ℕ) → j < k + 1 → Dec (j ≡ k) → get_or (set sums k next) j (pos 0) ≡ twelve_sum xs (month_at first j)
          put j l (yes q) = rw q (get_or-set_same sums k next (pos 0) (omega (arith, s.long)) ∙ e)
          put j l (no q) = get_or-set_other sums k j next (pos 0) q ∙ s.written j (omega arith)

          held : (j : ℕ) → j < k + 1 → Dec (j ≡ k) → is_word (twelve_sum xs (month_at first j)) ≡ true
          held j l (yes q) = rw (q, ← e) word
          held j l (no q) = s.words j (omega arith)

      module _ (end : n ≤ k) where
        pub summing_filled : sums ≡ map (twelve_sum xs) (months xs)
        summing_filled =
            rw w.spanned
            (ext_get_or (pos 0) sums (map (twelve_sum xs) (span (january2000 + first) n)) (s.long ∙ sym (length-map (span (january2000 + first) n) (twelve_sum xs) ∙ span_length (january2000 + first) n))
            (λ j h.
            let l : j < n = omega (arith, s.long) in
            let at : month_at first j ≡ january2000 + first + j = omega arith in
            s.written j (omega arith) ∙ ap (twelve_sum xs) at ∙ sym (made_from (twelve_sum xs) (pos 0) (january2000 + first) n j l)))

        pub summing_words : are_words xs ≡ true
        unfolding are_words
        summing_words =
            ap not
            (any_none (λ (m : ℕ). not (is_word (twelve_sum xs m))) (months xs)
            (λ m i.
            let r = span_in_lem (january2000 + first) n m (rw (← w.spanned) i) in
            let j = m - (january2000 + first) in
            let is : m ≡ month_at first j = omega (arith, r.0) in
            ap (λ (k : ℕ). not (is_word (twelve_sum xs k))) is ∙ ap not (s.words j (omega (arith, r.0, r.1)))))
