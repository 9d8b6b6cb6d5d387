-- The mark stands on the first of the largest sums, and the rows are those of the definition.
use Prim.Native.Nat.{ℕ, suc, ◌+◌, ◌-◌, ◌<◌}
use mathlib.Core.Path.{◌≡◌, refl, sym, ap, ap₂, ◌∙◌}
use mathlib.Core.Bool.{Bool, true, false, not, cond}
use mathlib.Core.List.{List, [], ◌∷◌, map, flat_map}
use native.Mathlib.Omega.{arith}
use native.Mathlib.Decide.{ℕ_discrete, dec_lt}
use borrow.Author.Tests.{eq-eqb, ne_eqb, lt-ltb, le-ltb}
use lib.Dec.{eqb, ltb}
use lib.IntN.{ℤ, pos}
use lib.ListN.{length, set, length-map}
use lib.Seq.{sets}
use lib.Signed.{◌≤ℤ◌, ◌<ℤ◌, le_z, lt_z}
use mir.Val.{bool_byte}
use Rattle.integer.specs.Linear.{linear}
use Rattle.lists.specs.Lists.{any, span}
use Rattle.lists.proofs.Lists.{in_any, any_none}
use Rattle.lists.proofs.Spans.{span_length, span_in_lem, made_from, span_from}
use Rattle.flat.proofs.Tables.{flat_same, flat_map_map}
use Rattle.money.specs.Words.{bits}
use Rattle.money.specs.Exact.{is_word}
use Rattle.months.specs.Months.{first_day, january2000}
use Rattle.model.specs.TwelveMonths.{Monthly, twelve_sum, months, outdoes, is_largest, twelve_months_to, twelve_months_of, are_words}
use Rattle.rows.specs.Rows.{numbers}
use Rattle.rows.proofs.Numbers.{numbers_flat}
use Rattle.answers.specs.Rows.{twelve_width, twelve_row}
use Rattle.answers.proofs.Sized.{Sized, sized}
use Rattle.twelve.specs.declared.listed.Listed.{Listed}
use Rattle.twelve.specs.Listed.{month_at, AreListed, listed_from}
use Rattle.twelve.specs.Largest.{sum_at, IsLargestAt, summed_row}
use Rattle.twelve.proofs.Windows.{in_months}

-- ---- orders as tests

le_true : {a b : ℤ} → a ≤ℤ b → le_z a b ≡ true
le_true {a} {b} h = go (le_z a b) refl
  where
    go : (t : Bool) → le_z a b ≡ t → t ≡ true
    go true e = refl
    go false e = absurd (omega (linear, e))

lt_true : {a b : ℤ} → a <ℤ b → lt_z a b ≡ true
lt_true {a} {b} h = go (lt_z a b) refl
  where
    go : (t : Bool) → lt_z a b ≡ t → t ≡ true
    go true e = refl
    go false e = absurd (omega (linear, e))

le_false : {a b : ℤ} → b <ℤ a → le_z a b ≡ false
le_false {a} {b} h = go (le_z a b) refl
  where
    go : (t : Bool) → le_z a b ≡ t → t ≡ false
    go true e = absurd (omega (linear, e))
    go false e = refl

lt_false : {a b : ℤ} → b ≤ℤ a → lt_z a b ≡ false
lt_false {a} {b} h = go (lt_z a b) refl
  where
    go : (t : Bool) → lt_z a b ≡ t → t ≡ false
    go true e = absurd (omega (linear, e))
    go false e = refl

-- ---- the largest so far

pub largest_first : (sums : List ℤ) → IsLargestAt sums 1 0
largest_first sums = record {
  inside = omega arith;
  most = λ k h. let e : k ≡ 0 = omega arith in omega (linear, ap (sum_at sums) e);
  first = λ k h. absurd (omega arith);
}

module _ {sums : List ℤ} {n r : ℕ} (g : IsLargestAt sums n r) where
  -- the next is no larger
  pub largest_kept : sum_at sums n ≤ℤ sum_at sums r → IsLargestAt sums (n + 1) r
  largest_kept l = record { inside = omega (arith, g.inside); most = λ k h. go k h (ℕ_discrete k n); first = g.first }
    where
      go : (k : ℕ) → k < n + 1 → Dec (k ≡ n) → sum_at sums k ≤ℤ sum_at sums r
      go k h (yes e) = rw e l
      go k h (no e) = g.most k (omega arith)

  -- or it is larger than all before it
  pub largest_next : sum_at sums r <ℤ sum_at sums n → IsLargestAt sums (n + 1) n
  largest_next l = record { inside = omega arith; most = λ k h. go k h (ℕ_discrete k n); first = λ k h. omega (linear, l, g.most k h) }
    where
      go : (k : ℕ) → k < n + 1 → Dec (k ≡ n) → sum_at sums k ≤ℤ sum_at sums n
      go k h (yes e) = omega (linear, ap (sum_at sums) e)
      go k h (no e) = let m = g.most k (omega arith) in omega (linear, l, m)

-- ---- the sums of the months from `first` on

module _ {xs : List Monthly} {first n : ℕ} (w : AreListed xs (listed_from first n)) {sums : List ℤ} (e : sums ≡ map (twelve_sum xs) (months xs)) where
  month_at_lem : (k : ℕ) → month_at first k ≡ january2000 + first + k
  month_at_lem k = omega arith

  sum_is : (k : ℕ) → k < n → sum_at sums k ≡ twelve_sum xs (month_at first k)
  sum_is k h =
      ap (λ (l : List ℤ). sum_at l k) (e ∙ ap (map (twelve_sum xs)) w.spanned)
      ∙ made_from (twelve_sum xs) (pos 0) (january2000 + first) n k h
      ∙ ap (twelve_sum xs) (sym (month_at_lem k))

  module _ {r : ℕ} (g : IsLargestAt sums n r) where
    -- whether month j keeps month k from the mark
    outdone : (k j : ℕ) → k < n → j < n → outdoes xs (month_at first k) (month_at first j) ≡ cond (ltb j k) (le_z (sum_at sums k) (sum_at sums j)) (lt_z (sum_at sums k) (sum_at sums j))
    unfolding outdoes
    outdone k j h i = rw (sum_is k h, sum_is j i, shifted (dec_lt j k)) refl
      where
        shifted : Dec (j < k) → ltb (month_at first j) (month_at first k) ≡ ltb j k
        shifted (yes l) = lt-ltb (month_at first j) (month_at first k) (omega arith) ∙ sym (lt-ltb j k l)
        shifted (no l) = le-ltb (month_at first j) (month_at first k) (omega arith) ∙ sym (le-ltb j k (omega arith))

    none_outdoes : (j : ℕ) → j < n → outdoes xs (month_at first r) (month_at first j) ≡ false
    none_outdoes j h = outdone r j g.inside h ∙ go (dec_lt j r)
      where
        go : Dec (j < r) → cond (ltb j r) (le_z (sum_at sums r) (sum_at sums j)) (lt_z (sum_at sums r) (sum_at sums j)) ≡ false
        go (yes l) = rw (lt-ltb j r l) (le_false (g.first j l))
        go (no l) = rw (le-ltb j r (omega arith)) (lt_false (g.most j h))

    outdoes_all : (k : ℕ) → k < n → (k ≡ r → ⊥) → outdoes xs (month_at first k) (month_at first r) ≡ true
    outdoes_all k h d = outdone k r h g.inside ∙ go (dec_lt r k)
      where
        go : Dec (r < k) → cond (ltb r k) (le_z (sum_at sums k) (sum_at sums r)) (lt_z (sum_at sums k) (sum_at sums r)) ≡ true
        go (yes l) = rw (lt-ltb r k l) (le_true (g.most k h))
        go (no l) = rw (le-ltb r k (omega arith)) (lt_true (g.first k (omega arith)))

    marked : (k : ℕ) → k < n → is_largest xs (month_at first k) ≡ eqb k r
    unfolding is_largest
    marked k h = go (ℕ_discrete k r)
      where
        go : Dec (k ≡ r) → not (any (outdoes xs (month_at first k)) (months xs)) ≡ eqb k r
        go (yes e) =
            ap not
            (any_none (outdoes xs (month_at first k)) (months xs)
            (λ m i.
            let s = span_in_lem (january2000 + first) n m (rw (← w.spanned) i) in
            let j = m - (january2000 + first) in
            let is : m ≡ month_at first j = omega (arith, s.0) in
            ap₂ (outdoes xs) (ap (month_at first) e) is ∙ none_outdoes j (omega (arith, s.0, s.1))))
            ∙ sym (eq-eqb k r e)
        go (no d) = ap not (in_any (outdoes xs (month_at first k)) (month_at first r) (months xs) (in_months xs first n w r g.inside) (outdoes_all k h d)) ∙ sym (ne_eqb k r d)

    row_is : (k : ℕ) → k < n → summed_row first r sums k ≡ twelve_row (twelve_months_to xs (month_at first k))
    unfolding twelve_row twelve_months_to
    row_is k h = rw (sum_is k h, marked k h) refl

    pub rows_are : flat_map (summed_row first r sums) (span 0 n) ≡ numbers (map twelve_row (twelve_months_of xs))
    unfolding twelve_months_of
    rows_are =
        let row : ℕ → List ℕ = λ m. twelve_row (twelve_months_to xs m) in
        let at : ℕ → ℕ = λ k. january2000 + first + k in
        flat_same (summed_row first r sums) (λ k. row (at k)) (span 0 n) (λ k m. row_is k (omega (arith, span_in_lem 0 n k m)) ∙ ap row (month_at_lem k))
        ∙ sym (flat_map_map row at (span 0 n))
        ∙ ap (flat_map row) (span_from (january2000 + first) n)
        ∙ sym (ap (flat_map row) w.spanned)
        ∙ sym (flat_map_map twelve_row (twelve_months_to xs) (months xs))
        ∙ sym (numbers_flat twelve_row (twelve_months_of xs))

-- ---- one row

pub row_set : (out : List ℕ) (at first mark : ℕ) (sum : ℤ) {x : ℕ} → x ≡ bits sum → set (set (set out at first) (at + 1) x) (at + 2) mark ≡ sets out at (first ∷ bits sum ∷ mark ∷ [])
row_set out at first mark sum {x} e =
    let one : at + 1 ≡ suc at = omega arith in
    let two : at + 2 ≡ suc (suc at) = omega arith in
    ap₂ (λ (j k : ℕ). set (set (set out at first) j x) k mark) one two ∙ ap (λ (y : ℕ). set (set (set out at first) (suc at) y) (suc (suc at)) mark) e

-- a mark as the machine has it
pub mark_is : (b : Bool) → bool_byte b ≡ cond b 1 0
mark_is true = refl
mark_is false = refl

-- as it is put: its sum read back from the bits of it
pub row_put : (first largest : ℕ) (sums : List ℤ) (k : ℕ) {day : ℕ} {sum : ℤ} {mark : ℕ} → day ≡ first_day (month_at first k) → sum ≡ sum_at sums k → mark ≡ cond (eqb k largest) 1 0 → (day ∷ bits sum ∷ mark ∷ []) ≡ summed_row first largest sums k
row_put first largest sums k d s m = rw (d, s, m) refl

pub row_wide : (first largest : ℕ) (sums : List ℤ) (k : ℕ) → length (summed_row first largest sums k) ≡ 3
row_wide first largest sums k = refl

pub rows_sized : {xs : List Monthly} {first n : ℕ} → AreListed xs (listed_from first n) → Sized (map twelve_row (twelve_months_of xs)) n twelve_width
unfolding twelve_months_of twelve_row
rows_sized {xs} {first} {n} w = sized twelve_row twelve_width (λ x. refl) (twelve_months_of xs) n (length-map (months xs) (twelve_months_to xs) ∙ ap length w.spanned ∙ span_length (january2000 + first) n)

-- ---- no month at all

pub none_words : {xs : List Monthly} {r : Listed} → AreListed xs r → r.count ≡ 0 → are_words xs ≡ true
unfolding are_words any span
none_words {xs} {r} w e = ap (λ (ms : List ℕ). not (any (λ (m : ℕ). not (is_word (twelve_sum xs m))) ms)) (w.spanned ∙ ap (span (january2000 + r.first)) e)
