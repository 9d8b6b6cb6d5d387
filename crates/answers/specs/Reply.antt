-- What is answered to a call.
use Rattle.std.specs.Prelude.{ℕ, Result}
use Rattle.format.specs.declared.Refusal.{Refusal}

-- the count of rows, or the refusal
abbrev pub Reply : Type 0
Reply = Result ℕ Refusal
