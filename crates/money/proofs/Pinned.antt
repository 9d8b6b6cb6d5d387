-- What no law fixes: the definitions on small numbers and at the ends of 64 bits, by computation. Assumes nothing.
use Rattle.std.proofs.Common.{Option, Some, None, ◌≡◌, ℕ, Bool, true, false, List, [], ◌∷◌, map, ℤ, pos, negsuc, refl}
use Rattle.money.specs.declared.costs.Cost.{Cost}
use Rattle.money.specs.declared.exact.Exact.{Exact}
use Rattle.money.specs.Words.{bits, of_bits}
use Rattle.money.specs.Scale.{in_range, scaled_by, priced_at, spent_of, differ}
use Rattle.money.specs.Shares.{signum, share_of, shares_from, spread}
use Rattle.money.specs.Costs.{completion_of, variance_of, sum_of}
use Rattle.money.specs.Exact.{value_of, is_word}

abbrev max : ℤ
max = pos 0x7fff_ffff_ffff_ffff

-- −2^63
abbrev min : ℤ
min = negsuc 0x7fff_ffff_ffff_ffff

-- ---- costs

abbrev cost : ℤ → ℤ → ℤ → Cost
cost budget actual remaining = record { budget = budget; actual = actual; remaining = remaining }

-- the cost at completion, and the budget less it: below zero where it costs more; each saturates
abbrev completions : List (Cost × List ℤ)
completions =
    (cost (pos 500) (pos 30) (pos 4), pos 34 ∷ pos 466 ∷ [])
    ∷ (cost (pos 5) (pos 30) (pos 4), pos 34 ∷ negsuc 28 ∷ [])
    ∷ (cost (negsuc 1) max (pos 1), max ∷ min ∷ [])
    ∷ (cost min min (pos 0), min ∷ pos 0 ∷ [])
    ∷ (cost (pos 0) min (negsuc 0), min ∷ max ∷ [])
    ∷ []

pub completion_cases : map (λ (c : Cost × List ℤ). completion_of c.0 ∷ variance_of c.0 ∷ []) completions ≡ map (λ (c : Cost × List ℤ). c.1) completions
completion_cases = refl

-- each figure is added to its own, and saturates
pub added : (sum_of (cost (pos 1) (pos 20) (pos 300)) (cost (pos 4000) (pos 50000) (pos 600000)) ≡ cost (pos 4001) (pos 50020) (pos 600300))
    × (sum_of (cost max min (pos 0)) (cost (pos 1) (negsuc 0) (pos 0)) ≡ cost max min (pos 0))
added = (refl, refl)

-- ---- products over a divisor

-- the product first, then toward zero whatever the signs; 0 over 0
abbrev quotients : List (ℤ × ℤ × ℤ × ℤ)
quotients =
    (pos 7, pos 3, pos 2, pos 10)
    ∷ (negsuc 6, pos 3, pos 2, negsuc 9)
    ∷ (pos 7, negsuc 2, pos 2, negsuc 9)
    ∷ (pos 7, pos 3, negsuc 1, negsuc 9)
    ∷ (negsuc 6, negsuc 2, negsuc 1, negsuc 9)
    ∷ (pos 7, pos 3, pos 0, pos 0)
    -- the ends of the range, and beyond either
    ∷ (pos 0x7fff_ffff_ffff_fffe, pos 1, pos 1, pos 0x7fff_ffff_ffff_fffe)
    ∷ (max, pos 1, pos 1, max)
    ∷ (min, pos 1, pos 1, min)
    ∷ (min, negsuc 0, pos 1, max)
    ∷ (max, negsuc 1, pos 1, min)
    -- 3 × 3,074,457,345,618,258,603 is 2^63 + 1
    ∷ (negsuc 2, pos 3074457345618258603, pos 1, min)
    -- the quotient is held in the range and not the product: −0.99 × (2^63 − 1) is inside
    ∷ (max, negsuc 98, pos 100, negsuc 9131138316486228047)
    -- `credit-edge`: −2^63 − 0.01 and −2^63 − 1
    ∷ (pos 8619973866219416643, negsuc 106, pos 100, min)
    ∷ (pos 8540159293384051675, negsuc 107, pos 100, min)
    ∷ []

pub quotient_cases :
    map (λ (q : ℤ × ℤ × ℤ × ℤ). scaled_by q.0 q.1 q.2) quotients ≡ map (λ (q : ℤ × ℤ × ℤ × ℤ). q.3) quotients
unfolding scaled_by in_range
quotient_cases = refl

pub signs_differ : differ true true ∷ differ true false ∷ differ false true ∷ differ false false ∷ [] ≡ false ∷ true ∷ true ∷ false ∷ []
signs_differ = refl

-- 2.50 units at 3.33 cost 8.32
pub priced_case : priced_at (pos 250) (pos 333) ≡ pos 832
unfolding scaled_by in_range
priced_case = refl

-- what is spent, the budget, the share of it
abbrev shares_spent : List (ℤ × ℤ × Option ℤ)
shares_spent =
    (pos 1, pos 3, Some (pos 3333))
    -- toward zero, whatever the signs
    ∷ (negsuc 0, pos 3, Some (negsuc 3332))
    ∷ (pos 1, negsuc 2, Some (negsuc 3332))
    -- nothing of a budget, and less than a hundredth of a percent of it: a share of 0
    ∷ (pos 0, pos 5, Some (pos 0))
    ∷ (pos 1, pos 20000, Some (pos 0))
    -- no budget, whatever is spent: no share
    ∷ (pos 0, pos 0, None)
    ∷ (pos 700, pos 0, None)
    ∷ (negsuc 0, pos 0, None)
    -- `spent_signs`: beyond either end of 64 bits
    ∷ (negsuc 0x7fff_ffff_ffff_fffe, pos 1, Some min)
    ∷ (max, negsuc 0, Some min)
    ∷ (negsuc 0x7fff_ffff_ffff_fffe, negsuc 0, Some max)
    ∷ (max, pos 1, Some max)
    -- and −2^63 itself, spent and as a budget
    ∷ (min, pos 10000, Some min)
    ∷ (min, min, Some (pos 10000))
    ∷ (pos 1, min, Some (pos 0))
    ∷ []

pub spent_cases : map (λ (q : ℤ × ℤ × Option ℤ). spent_of q.0 q.1) shares_spent ≡ map (λ (q : ℤ × ℤ × Option ℤ). q.2) shares_spent
unfolding scaled_by in_range
spent_cases = refl

-- ---- shares: what does not divide is on the first days, and of the amount's sign

pub shares :
    (spread (pos 8) 3 ≡ pos 3 ∷ pos 3 ∷ pos 2 ∷ [])
    × (spread (negsuc 6) 3 ≡ negsuc 2 ∷ negsuc 1 ∷ negsuc 1 ∷ [])
    × (spread (pos 2) 0 ≡ [])
    -- −2^63, all on one day and over three
    × (spread min 1 ≡ min ∷ [])
    × (spread min 3 ≡ negsuc 3074457345618258602 ∷ negsuc 3074457345618258602 ∷ negsuc 3074457345618258601 ∷ [])
unfolding share_of shares_from
shares = (refl, refl, refl, refl, refl)

pub signs : map signum (negsuc 6 ∷ pos 0 ∷ pos 7 ∷ []) ≡ negsuc 0 ∷ pos 0 ∷ pos 1 ∷ []
signs = refl

-- ---- two's complement: −1 is all ones

abbrev words : List (ℤ × ℕ)
words =
    (pos 5, 5)
    ∷ (max, 0x7fff_ffff_ffff_ffff)
    ∷ (min, 0x8000_0000_0000_0000)
    ∷ (negsuc 1, 0xffff_ffff_ffff_fffe)
    ∷ (negsuc 0, 0xffff_ffff_ffff_ffff)
    ∷ []

pub word_cases : (map (λ (w : ℤ × ℕ). bits w.0) words ≡ map (λ (w : ℤ × ℕ). w.1) words) × (map (λ (w : ℤ × ℕ). of_bits w.1) words ≡ map (λ (w : ℤ × ℕ). w.0) words)
word_cases = (refl, refl)

-- ---- numbers of two words

-- the two words, the number, whether it is one of 64 bits
abbrev wides : List (Exact × ℤ × Bool)
wides =
    (record { high = pos 0; low = 5 }, pos 5, true)
    ∷ (record { high = pos 0; low = 0x7fff_ffff_ffff_ffff }, max, true)
    ∷ (record { high = pos 0; low = 0x8000_0000_0000_0000 }, pos 0x8000_0000_0000_0000, false)
    ∷ (record { high = pos 1; low = 5 }, pos 0x1_0000_0000_0000_0005, false)
    ∷ (record { high = negsuc 0; low = 0xffff_ffff_ffff_ffff }, negsuc 0, true)
    ∷ (record { high = negsuc 0; low = 0x8000_0000_0000_0000 }, min, true)
    ∷ (record { high = negsuc 0; low = 0x7fff_ffff_ffff_ffff }, negsuc 0x8000_0000_0000_0000, false)
    ∷ (record { high = negsuc 1; low = 0xffff_ffff_ffff_ffff }, negsuc 0x1_0000_0000_0000_0000, false)
    ∷ []

pub wide_cases : (map (λ (w : Exact × ℤ × Bool). value_of w.0) wides ≡ map (λ (w : Exact × ℤ × Bool). w.1) wides)
    × (map (λ (w : Exact × ℤ × Bool). is_word w.1) wides ≡ map (λ (w : Exact × ℤ × Bool). w.2) wides)
unfolding is_word
wide_cases = (refl, refl)
