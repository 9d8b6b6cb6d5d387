-- Lines of text, in ASCII.
use Rattle.std.specs.Prelude.{ℕ, zero, suc, ◌/◌, cond, List, [], ◌∷◌, ◌++◌, ltb, ℤ, pos, negsuc}
use Rattle.io.specs.Digits.{last_digits}
use Rattle.money.specs.Words.{of_bits}

-- how many decimal digits a number below 10 ^ (1 + k) has
unfoldable pub places : ℕ → ℕ → ℕ
places zero n = 1
places (suc k) n = cond (ltb n 10) 1 (suc (places k (n / 10)))

-- a number below 10 ^ 20 in decimal digits, without zeros in front
unfoldable pub decimal : ℕ → List ℕ
decimal n = last_digits 10 (places 19 n) n

-- the same with a sign, where it is negative
unfoldable pub signed : ℤ → List ℕ
signed (pos n) = decimal n
signed (negsuc n) = 45 ∷ decimal (suc n)

-- two numbers, a blank between them
unfoldable pub pair : ℕ → ℕ → List ℕ
pair a b = decimal a ++ (32 ∷ decimal b)

-- what may be absent, as a mark and a number in two's complement: a hyphen where the mark is 0
unfoldable pub marked : ℕ → ℕ → List ℕ
marked zero n = 45 ∷ []
marked (suc m) n = signed (of_bits n)

-- numbers in two's complement, each behind a blank
unfoldable pub figures : List ℕ → List ℕ
figures [] = []
figures (n ∷ ns) = (32 ∷ signed (of_bits n)) ++ figures ns

-- what leads a line, its figures, the line's end
unfoldable pub line : List ℕ → List ℕ → List ℕ
line head ns = head ++ (figures ns ++ (10 ∷ []))
