-- Signed numbers: v from zero up is sent as 2v, below zero as -2v - 1.
use Rattle.std.specs.Prelude.{ℕ, ◌+◌, ◌*◌, ◌/◌, ◌%◌, ◌^◌, ◌<◌, ◌≡◌, refl, Bool, true, false, cond, eqb, ℤ, pos, negsuc}
use Rattle.std.proofs.Common.{arith, SFits, eqb-true}
use Rattle.std.specs.Int.{w64}
use Rattle.std.proofs.lemmas.Bool.{eqb-false}
use Rattle.format.specs.Number.{write_number}
use Rattle.format.specs.Reader.{Reader, Writer, mapped, number}
use Rattle.format.specs.Bytes.{Bytes, number_bytes}
use Rattle.format.specs.Sound.{Sound}
use Rattle.format.specs.Inverse.{Inverse, mapped_inverse, number_inverse}
use Rattle.format.specs.Within.{Within, number_within, mapped_within}

-- as what number it is sent; `negsuc n` is -n - 1
unfoldable pub sent : ℤ → ℕ
sent (pos n) = 2 * n
sent (negsuc n) = 2 * n + 1

-- what a number stands for
unfoldable pub received : ℕ → ℤ
received v = cond (eqb (v % 2) 0) (pos (v / 2)) (negsuc (v / 2))

unfoldable pub signed : Reader ℤ
signed = mapped received number

unfoldable pub write_signed : Writer ℤ
write_signed z = write_number (sent z)

-- what is sent is below 2^64
abbrev pub Sendable : ℤ → Type 0
Sendable z = sent z < 2 ^ 64

-- it then fits 64 bits, and what fits 64 bits can be sent
pub sendable_fits : (z : ℤ) → Sendable z → SFits w64 z
unfolding sent
sendable_fits (pos n) h = record { sfits = omega arith }
sendable_fits (negsuc n) h = record { sfits = omega arith }

pub fits_sendable : (z : ℤ) → SFits w64 z → Sendable z
unfolding sent
fits_sendable (pos n) h = omega (arith, h.sfits)
fits_sendable (negsuc n) h = omega (arith, h.sfits)

received_sent : (z : ℤ) → received (sent z) ≡ z
unfolding received sent
received_sent (pos n) =
    let a : 2 * n % 2 ≡ 0 = omega arith in
    let b : 2 * n / 2 ≡ n = omega arith in
    rw (a, b)
received_sent (negsuc n) =
    let a : (2 * n + 1) % 2 ≡ 1 = omega arith in
    let b : (2 * n + 1) / 2 ≡ n = omega arith in
    rw (a, b)

sent_received : (v : ℕ) → sent (received v) ≡ v
unfolding received sent
sent_received v = go (eqb (v % 2) 0) refl
  where
    go : (b : Bool) → eqb (v % 2) 0 ≡ b → sent (cond b (pos (v / 2)) (negsuc (v / 2))) ≡ v
    go true e = omega (arith, eqb-true (v % 2) 0 e)
    go false e = omega (arith, eqb-false (v % 2) 0 e)

pub signed_inverse : Sound → Inverse signed write_signed Sendable
unfolding signed write_signed
signed_inverse sound = mapped_inverse received sent (λ z h. received_sent z) (λ v h. sent_received v) (number_inverse sound)

pub signed_bytes : (z : ℤ) → Bytes (write_signed z)
unfolding write_signed
signed_bytes z = number_bytes (sent z)

pub signed_within : Within signed
unfolding signed
signed_within = mapped_within received number_within
