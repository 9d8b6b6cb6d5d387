-- A number of the book: groups of seven bits, lowest group first, top bit set on all bytes but the last, shortest form only, below 2^64.
use Rattle.std.specs.Prelude.{ℕ, zero, suc, ◌+◌, ◌-◌, ◌*◌, ◌/◌, ◌%◌, Bool, false, cond, List, [], ◌∷◌, length, get_or, ltb, leb, eqb, Err, Ok}
use Rattle.format.specs.declared.Reason.TheVariants.{EndsEarly, NotShortest}
use Rattle.format.specs.Position.{Num, refused}
use Rattle.format.specs.declared.Reason.{Reason}

-- refusal 3, where `left` of ten bytes are left: a last byte 0 behind others, or a tenth byte above 1
unfoldable pub wrong_group : ℕ → ℕ → Bool
wrong_group left b = cond (eqb b 0) (ltb left 10) (cond (eqb left 1) (ltb 1 b) false)

-- `low` and `scale` times the number that follows
unfoldable pub onto : ℕ → ℕ → Num → Num
onto low scale (Ok (v, next)) = Ok (low + scale * v, next)
onto low scale (Err e) = Err e

-- at most `left` groups from `at` on, of the number that begins at `place`
unfoldable pub groups : ℕ → List ℕ → ℕ → ℕ → Num
groups zero s place at = refused NotShortest place
groups (suc left) s place at =
    cond (leb (length s) at)
    (refused EndsEarly (length s))
    (cond (wrong_group (suc left) (get_or s at 0))
    (refused NotShortest place)
    (cond (ltb (get_or s at 0) 128)
    (Ok (get_or s at 0, at + 1))
    (onto (get_or s at 0 - 128) 128 (groups left s place (at + 1)))))

-- the number that begins at `place`
unfoldable pub number_at : List ℕ → ℕ → Num
number_at s place = groups 10 s place place

-- the number, where it is from `low` to below `bound`; outside, the refusal `reason` at `place`
unfoldable pub in_range : ℕ → ℕ → Reason → ℕ → Num → Num
in_range low bound reason place (Ok (v, next)) = cond (ltb v low) (refused reason place) (cond (ltb v bound) (Ok (v, next)) (refused reason place))
in_range low bound reason place (Err e) = Err e

-- n in at most `left` groups
unfoldable pub write_groups : ℕ → ℕ → List ℕ
write_groups zero n = []
write_groups (suc left) n = cond (ltb n 128) (n ∷ []) ((n % 128 + 128) ∷ write_groups left (n / 128))

-- ten groups are enough below 2^64
unfoldable pub write_number : ℕ → List ℕ
write_number n = write_groups 10 n
