-- `gregorian::is_date` meets its contract.
-- Assumes nothing.
use Prim.Native.Nat.{ℕ, zero, suc, ◌<◌}
use mathlib.Core.Path.{◌≡◌, refl, sym, ◌∙◌}
use mathlib.Core.Bool.{true, false, ◌&&◌}
use mathlib.Core.Logic.{◌⊎◌, inl, inr}
use native.Mathlib.Decide.{dec_lt}
use native.Mathlib.Omega.{arith}
use lib.Dec.{leb}
use borrow.Author.Tests.{le-leb, lt-leb}
use Rattle.std.proofs.lemmas.Bool.{false≢true}
use Rattle.gregorian.specs.Calendar.{is_date}
use Rattle.gregorian.proofs.Between.{not_more}
use Rattle.gregorian.proofs.Laws.{no_month}
use Rattle.gregorian.proofs.is_date.Goals as goal

-- a month that is none has no day
no_day : (y m d : ℕ) → (m < 1) ⊎ (12 < m) → false ≡ is_date y m d
unfolding is_date
no_day y m d h = rw (no_month y m h) (none d)
  where
    none : (d : ℕ) → false ≡ (leb 1 d && leb d 0)
    none zero = refl
    none (suc d) = simp (le-leb 1 (suc d) (omega arith), lt-leb (suc d) 0 (omega arith))

outside : (m : ℕ) → (leb 1 m && leb m 12) ≡ false → (m < 1) ⊎ (12 < m)
outside m e = go (dec_lt m 1) (dec_lt 12 m)
  where
    go : Dec (m < 1) → Dec (12 < m) → (m < 1) ⊎ (12 < m)
    go (yes h) k = inl h
    go (no h) (yes k) = inr k
    go (no h) (no k) =
        let both : (leb 1 m && leb m 12) ≡ true = rw (le-leb 1 m (omega arith), le-leb m 12 (omega arith)) in
        absurd (false≢true (sym e ∙ both))

pub returns-then-contains : goal.returns-then-contains
unfolding is_date
returns-then-contains c =
    let m = c.month_length.result in
    let r = c.new-then-contains.ensures in
    c.contains-then-contains.ensures.value
    ∙ rw (r.start, r.end, r.exhausted, not_more 1 c.args.day, not_more c.args.day m, c.month_length.ensures)

pub returns-else-contains : goal.returns-else-contains
returns-else-contains c =
    let m = c.args.month in
    let r = c.new.ensures in
    let within : c.contains.result ≡ (leb 1 m && leb m 12) = c.contains.ensures.value ∙ rw (r.start, r.end, r.exhausted, not_more 1 m, not_more m 12) in
    c.if-contains.false ∙ no_day c.args.year m c.args.day (outside m (sym within ∙ c.if-contains.false))
