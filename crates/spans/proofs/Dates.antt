-- What may be absent, and what stands for it.
use Rattle.std.specs.Prelude.{None, Option, Some, unwrap_or}
use Prim.Native.Nat.{ℕ}
use mathlib.Core.Path.{◌≡◌, refl}
use Rattle.model.specs.Days.{actual_to}
use Rattle.std.specs.Option.{option_or}

-- the first, else the second, else the third
pub first_given : (a b : Option ℕ) (d : ℕ) → unwrap_or a (unwrap_or b d) ≡ unwrap_or (option_or a b) d
first_given None b d = refl
first_given (Some n) b d = refl

pub finish_given : (finish date : Option ℕ) (from : ℕ) → unwrap_or finish (actual_to None date from) ≡ actual_to finish date from
finish_given None date from = refl
finish_given (Some d) date from = refl
