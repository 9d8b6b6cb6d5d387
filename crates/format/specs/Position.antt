-- Where reading goes on, or the refusal.
use Rattle.std.specs.Prelude.{ℕ, Result, Err}
use Rattle.format.specs.declared.Reason.{Reason}
use Rattle.format.specs.declared.Refusal.{Refusal}

-- a reading position
abbrev pub Pos : Type 0
Pos = Result ℕ Refusal

-- one number: its value and the position after it, or the refusal
abbrev pub Num : Type 0
Num = Result (ℕ × ℕ) Refusal

-- the refusal for a reason, at a place
abbrev pub refused : {A : Type 0} → Reason → ℕ → Result A Refusal
refused reason place = Err (record { reason = reason; place = place })

-- what is answered to a book: accepted, or the refusal
abbrev pub Answer : Type 0
Answer = Result (Unit {0}) Refusal
