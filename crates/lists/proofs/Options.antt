-- What may be absent: none is no value, and a value is one alone.
use Rattle.std.specs.Prelude.{◌≡◌, Option, None, Some}

pub none_ne_some : {A : Type 0} (a : A) → ◌≡◌ {A = Option A} None (Some a) → ⊥
none_ne_some a e = cc

pub some_injective : {A : Type 0} (a b : A) → ◌≡◌ {A = Option A} (Some a) (Some b) → a ≡ b
some_injective a b e = cc
