-- `gregorian::month_length` meets its contract.
-- Assumes nothing.
use Prim.Native.Nat.{ℕ, ◌+◌, ◌≤◌}
use mathlib.Core.Path.{◌≡◌, sym, ◌∙◌}
use mathlib.Core.Bool.{Bool, true, false, cond}
use mathlib.Core.Logic.{inl, inr, ⊎_elim}
use native.Mathlib.Omega.{arith}
use Rattle.gregorian.specs.Calendar.{is_leap, leap_day, month_length}
use Rattle.gregorian.proofs.Laws.{months}
use Rattle.gregorian.proofs.month_length.Goals as goal

february : (y m : ℕ) (b : Bool) → m ≡ 2 → is_leap y ≡ b → 28 + cond b 1 0 ≡ month_length y m
unfolding month_length leap_day
february y m b e h = rw (e, h)

pub returns-then-is_leap : goal.returns-then-is_leap
returns-then-is_leap c = february _ _ true c.in-2.is (sym c.is_leap.ensures ∙ c.if-is_leap.true)

pub returns-else-is_leap : goal.returns-else-is_leap
returns-else-is_leap c = february _ _ false c.in-2.is (sym c.is_leap.ensures ∙ c.if-is_leap.false)

pub returns-in-4 : goal.returns-in-4
unfolding month_length
returns-in-4 c = ⊎_elim (λ e. rw e) (⊎_elim (λ e. rw e) (⊎_elim (λ e. rw e) (λ e. rw e))) c.in-4.is

abbrev Other : ℕ → Type 0
Other m = (m ≡ 2 → ⊥) × (m ≡ 4 → ⊥) × (m ≡ 6 → ⊥) × (m ≡ 9 → ⊥) × (m ≡ 11 → ⊥)

others : (y m : ℕ) → 1 ≤ m → m ≤ 12 → Other m → 31 ≡ month_length y m
unfolding month_length
others y = months (λ (m : ℕ). Other m → 31 ≡ month_length y m) (omega arith)

pub returns-in_default : goal.returns-in_default
returns-in_default c =
    let r = c.in_default.in_default-own.rest.1 in
    others _ _ c.requires.0 c.requires.1 (c.in_default.in_default-own.rest.0.1, λ e. r (inl e), λ e. r (inr (inl e)), λ e. r (inr (inr (inl e))), λ e. r (inr (inr (inr e))))
