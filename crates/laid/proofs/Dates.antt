-- Dates that pass a test, between two dates: one date fewer at the start, and at the end.
use Prim.Native.Nat.{ℕ, zero, suc, ◌+◌, ◌-◌, ◌≤◌, ◌<◌}
use mathlib.Core.Path.{◌≡◌, refl, ap, ◌∙◌}
use mathlib.Core.Bool.{Bool, true, false}
use mathlib.Core.List.{List, [], ◌∷◌, ◌++◌, map, append-nil}
use native.Mathlib.Omega.{arith}
use lib.ListN.{length, get_or, length-append}
use lib.Seq.{get_or-append_seam}
use Rattle.lists.specs.Lists.{span, cons_if, keep}
use Rattle.model.specs.Days.{dates_between, or_alone}
use Rattle.lists.proofs.Lists.{keep_append, keep_alike as keep-agreeing, map_same}
use Rattle.lists.proofs.Spans.{span_length, span_in_lem}
use Rattle.model.proofs.Days.{kept_between}
use Rattle.prices.proofs.Shares.{span_split}
use Rattle.laid.specs.Listed.{Covers, IsSpan, span_of}

last_of : (alone d : ℕ) (before : List ℕ) → let l = or_alone alone (before ++ (d ∷ [])) in get_or l (length l - 1) 0 ≡ d
last_of alone d [] = refl
last_of alone d (b ∷ before) =
    let l = b ∷ before in
    let e : length (l ++ (d ∷ [])) - 1 ≡ length l = omega (arith, length-append l (d ∷ [])) in
    ap (λ (i : ℕ). get_or (l ++ (d ∷ [])) i 0) e ∙ get_or-append_seam l d [] 0

pub one_most : (b : Bool) (d : ℕ) → length (cons_if b d []) ≤ 1
one_most true d = omega arith
one_most false d = omega arith

-- how many dates there are
pub dates_between_lem : (first last : ℕ) → length (dates_between first last) ≡ last + 1 - first
unfolding dates_between
dates_between_lem first last = span_length first (last + 1 - first)

module _ (p : ℕ → Bool) where
  pub none_left : (first last : ℕ) → last < first → keep p (dates_between first last) ≡ []
  unfolding dates_between span keep
  none_left first last h = let e : last + 1 - first ≡ 0 = omega arith in ap (λ (n : ℕ). keep p (span first n)) e

  -- the first date, if it passes, and those after it
  pub one_first : (first last : ℕ) (b : Bool) → first ≤ last → p first ≡ b → keep p (dates_between first last) ≡ cons_if b first [] ++ keep p (dates_between (first + 1) last)
  unfolding dates_between span keep
  one_first first last b h t =
      let e : last + 1 - first ≡ suc (last + 1 - (first + 1)) = omega arith in
      let g : suc first ≡ first + 1 = omega arith in
      ap (λ (n : ℕ). keep p (span first n)) e ∙ ap (λ (b : Bool). cons_if b first (keep p (span (suc first) (last + 1 - (first + 1))))) t
      ∙ go b ∙ ap (λ (d : ℕ). cons_if b first [] ++ keep p (span d (last + 1 - (first + 1)))) g
    where
      go : (b : Bool) → cons_if b first (keep p (span (suc first) (last + 1 - (first + 1)))) ≡ cons_if b first [] ++ keep p (span (suc first) (last + 1 - (first + 1)))
      go true = refl
      go false = refl

  -- two parts
  pub parted : (first next last : ℕ) → first < next → next ≤ last + 1 → keep p (dates_between first last) ≡ keep p (dates_between first (next - 1)) ++ keep p (dates_between next last)
  unfolding dates_between
  parted first next last h l =
      let e : last + 1 - first ≡ (next - 1 + 1 - first) + (last + 1 - next) = omega arith in
      let g : first + (next - 1 + 1 - first) ≡ next = omega arith in
      ap (λ (m : ℕ). keep p (span first m)) e
      ∙ ap (keep p) (span_split first (next - 1 + 1 - first) (last + 1 - next) ∙ ap (λ (a : ℕ). span first (next - 1 + 1 - first) ++ span a (last + 1 - next)) g)
      ∙ keep_append p (span first (next - 1 + 1 - first)) (span next (last + 1 - next))

  -- those before the last, and it
  pub one_last : (first next : ℕ) → first < next → keep p (span first (next - first)) ≡ keep p (span first (next - 1 - first)) ++ cons_if (p (next - 1)) (next - 1) []
  unfolding span keep
  one_last first next h =
      let e : next - first ≡ (next - 1 - first) + 1 = omega arith in
      let g : first + (next - 1 - first) ≡ next - 1 = omega arith in
      ap (λ (m : ℕ). keep p (span first m)) e
      ∙ ap (keep p) (span_split first (next - 1 - first) 1 ∙ ap (λ (a : ℕ). span first (next - 1 - first) ++ span a 1) g)
      ∙ keep_append p (span first (next - 1 - first)) (span (next - 1) 1)

  kept_most : (a n : ℕ) → length (keep p (span a n)) ≤ n
  unfolding span keep
  kept_most a zero = omega arith
  kept_most a (suc n) = go (p a) (kept_most (suc a) n)
    where
      go : (b : Bool) → length (keep p (span (suc a) n)) ≤ n → length (cons_if b a (keep p (span (suc a) n))) ≤ suc n
      go true h = omega arith
      go false h = omega arith

  -- no more pass than there are
  pub most_between : (first last : ℕ) → length (keep p (dates_between first last)) ≤ last + 1 - first
  unfolding dates_between
  most_between first last = kept_most first (last + 1 - first)

  -- ---- the first date passes or not

  pub first_kept : (alone first last : ℕ) → first ≤ last → p first ≡ true → get_or (or_alone alone (keep p (dates_between first last))) 0 0 ≡ first
  first_kept alone first last h e = ap (λ (l : List ℕ). get_or (or_alone alone l) 0 0) (one_first first last true h e)

  pub count_first : (first last : ℕ) (b : Bool) → first ≤ last → p first ≡ b
      → length (keep p (dates_between first last)) ≡ length (cons_if b first []) + length (keep p (dates_between (first + 1) last))
  count_first first last b h e = ap length (one_first first last b h e) ∙ length-append (cons_if b first []) (keep p (dates_between (first + 1) last))

  -- ---- the last date passes or not

  pub none_before : (first next : ℕ) → next ≤ first → keep p (span first (next - first)) ≡ []
  unfolding span keep
  none_before first next h = let e : next - first ≡ 0 = omega arith in ap (λ (n : ℕ). keep p (span first n)) e

  pub skip_last : (first next : ℕ) → first < next → p (next - 1) ≡ false → keep p (span first (next - first)) ≡ keep p (span first (next - 1 - first))
  skip_last first next h e =
      one_last first next h ∙ ap (λ (b : Bool). keep p (span first (next - 1 - first)) ++ cons_if b (next - 1) []) e ∙ append-nil (keep p (span first (next - 1 - first)))

  pub last_kept : (alone first next : ℕ) → first < next → p (next - 1) ≡ true
      → let l = or_alone alone (keep p (span first (next - first))) in get_or l (length l - 1) 0 ≡ next - 1
  last_kept alone first next h e =
      ap (λ (l : List ℕ). get_or (or_alone alone l) (length (or_alone alone l) - 1) 0)
      (one_last first next h ∙ ap (λ (b : Bool). keep p (span first (next - 1 - first)) ++ cons_if b (next - 1) []) e)
      ∙ last_of alone (next - 1) (keep p (span first (next - 1 - first)))

-- ---- a span whose dates are counted

pub span_is : {row base : ℕ} {days : List ℕ} {first last : ℕ} → Covers row base days first last → IsSpan days (span_of days row base first last)
span_is c = record { covers = c; counted = refl }

-- ---- tests and functions that agree on the dates between two

pub keep_alike : (p q : ℕ → Bool) (first last : ℕ) → ((d : ℕ) → first ≤ d → d ≤ last → p d ≡ q d) → keep p (dates_between first last) ≡ keep q (dates_between first last)
unfolding dates_between
keep_alike p q first last h = keep-agreeing p q (span first (last + 1 - first)) (λ d m. let i = span_in_lem first (last + 1 - first) d m in h d i.0 (omega (arith, i.1)))

pub map_alike :
    {B : Type 0} (f g : ℕ → B) (p : ℕ → Bool) (first last : ℕ) → ((d : ℕ) → first ≤ d → d ≤ last → f d ≡ g d) →
    map f (keep p (dates_between first last)) ≡ map g (keep p (dates_between first last))
map_alike f g p first last h = map_same f g (keep p (dates_between first last)) (λ d m. let k = kept_between p first last d m in h d k.0 k.1)
