-- Numbers of two words, and a division with its rest.
use Rattle.std.specs.Prelude.{◌≡◌, ℕ, ◌+◌, ◌*◌, ◌<◌}
use Rattle.wide.specs.declared.words.Wide.{Wide}

-- a word of 64 bits holds the numbers below 2^64, half a word those below 2^32
abbrev pub word : ℕ
word = 18446744073709551616

abbrev pub half : ℕ
half = 4294967296

-- the number that two words stand for
abbrev pub value : Wide → ℕ
value w = w.high * word + w.low

-- n by d is q, a digit of half a word, and leaves r
pub record Divided (n d q r : ℕ) : Type 0 where
  pub whole : q * d + r ≡ n
  pub rest : r < d
  pub digit : q < half

-- a number that d can be multiplied by in one word
pub record Factor (d k : ℕ) : Type 0 where
  pub positive : 0 < k
  pub fits : d * k < word
