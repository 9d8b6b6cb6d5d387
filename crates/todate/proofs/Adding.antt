-- Figures changed by an entry: those of one period, then those of all.
use Prim.Native.Nat.{ℕ, zero, suc, ◌+◌, ◌*◌, ◌≤◌, ◌<◌}
use native.Mathlib.Omega.{arith}
use native.Mathlib.Decide.{ℕ_discrete}
use mathlib.Core.Path.{◌≡◌, refl, sym, ap, ◌∙◌}
use mathlib.Core.Bool.{Bool, true, false, cond}
use mathlib.Core.List.{List}
use lib.Dec.{eqb, leb}
use lib.IntN.{ℤ, pos, ◌+ℤ◌}
use lib.ListN.{length, get_or, set, length-set}
use lib.Seq.{get_or-set_other}
use mir.Syntax.{w64}
use borrow.Author.Tests.{ne_eqb}
use Rattle.integer.specs.Clamp.{clamp}
use Rattle.calendar.specs.Changes.{Changed, of_calendar, of_first, of_row, of_figure}
use Rattle.calendar.proofs.Changes.{changed_none, changed_then, changed_same, changed_figure, first_none, first_more, first_all}
use Rattle.todate.specs.Figures.{closing, entered}

cond_same : (b : Bool) (z : ℤ) → cond b z z ≡ z
cond_same true z = refl
cond_same false z = refl

-- ---- one period

module _ (close : ℕ) (earned actual : ℤ) (p finish : ℕ) (figures : List ℤ) where
  pub period_closed :
      p * 3 + 3 ≤ length figures → leb close finish ≡ true → {x y : ℤ} →
      x ≡ clamp w64 (get_or figures (p * 3 + 1) (pos 0) +ℤ earned) → y ≡ clamp w64 (get_or figures (p * 3 + 2) (pos 0) +ℤ actual) →
      Changed 3 (of_row p (closing close earned actual finish)) figures (set (set figures (p * 3 + 1) x) (p * 3 + 2) y)
  period_closed room shut {x} {y} e f =
      let plus : ℤ → ℤ → ℤ = λ a z. clamp w64 (z +ℤ a) in
      let once = set figures (p * 3 + 1) x in
      let other : get_or once (p * 3 + 2) (pos 0) ≡ get_or figures (p * 3 + 2) (pos 0) = get_or-set_other figures (p * 3 + 1) (p * 3 + 2) x (pos 0) (λ q. absurd (omega arith)) in
      changed_same
      (changed_then (changed_figure p 1 (plus earned) figures x (omega arith) (omega arith) e)
      (changed_figure p 2 (plus actual) once y (omega arith) (omega (arith, length-set figures (p * 3 + 1) x)) (f ∙ ap (plus actual) (sym other))))
      (of_row p (closing close earned actual finish))
      (λ i j l h. one (eqb p i) j l (get_or figures (i * 3 + j) (pos 0)))
    where
      one :
          (b : Bool) (j : ℕ) → j < 3 → (z : ℤ) →
          cond b (of_figure 2 (λ w. clamp w64 (w +ℤ actual)) j (cond b (of_figure 1 (λ w. clamp w64 (w +ℤ earned)) j z) z)) (cond b (of_figure 1 (λ w. clamp w64 (w +ℤ earned)) j z) z)
          ≡ cond b (closing close earned actual finish j z) z
      one false j l z = refl
      one true zero l z = refl
      one true (suc zero) l z = rw shut
      one true (suc (suc zero)) l z = rw shut
      one true (suc (suc (suc j))) l z = absurd (omega arith)

  pub period_open : leb close finish ≡ false → Changed 3 (of_row p (closing close earned actual finish)) figures figures
  period_open still = changed_same (changed_none figures) (of_row p (closing close earned actual finish)) (λ i j l h. one (eqb p i) j (get_or figures (i * 3 + j) (pos 0)))
    where
      one : (b : Bool) (j : ℕ) (z : ℤ) → z ≡ cond b (closing close earned actual finish j z) z
      one false j z = refl
      one true zero z = refl
      one true (suc zero) z = rw still
      one true (suc (suc j)) z = rw still

-- ---- all of them, one a turn

abbrev all_closing : List ℕ → ℕ → ℤ → ℤ → ℕ → ℕ → ℤ → ℤ
all_closing finishes period earned actual p j z = closing (get_or finishes period 0) earned actual (get_or finishes p 0) j z

-- the figures of the first p periods are changed
pub record Closed (finishes : List ℕ) (period : ℕ) (earned actual : ℤ) (p : ℕ) (before after : List ℤ) : Type 0 where
  pub changed : Changed 3 (of_first (λ (q : ℕ). q) p (all_closing finishes period earned actual)) before after

pub closed_none : {finishes : List ℕ} {period : ℕ} {earned actual : ℤ} {figures : List ℤ} → Closed finishes period earned actual 0 figures figures
closed_none {finishes} {period} {earned} {actual} {figures} = record { changed = first_none (λ (q : ℕ). q) (all_closing finishes period earned actual) figures }

module _ {finishes : List ℕ} {period : ℕ} {earned actual : ℤ} {p : ℕ} {before now : List ℤ} (c : Closed finishes period earned actual p before now) where
  pub closed_more : {after : List ℤ} → Changed 3 (of_row p (closing (get_or finishes period 0) earned actual (get_or finishes p 0))) now after → Closed finishes period earned actual (p + 1) before after
  closed_more d =
      record {
        changed =
            first_more (λ (q : ℕ). q) all p c.changed
            (changed_same d (of_calendar (λ (q : ℕ). q) p all) (λ i j l h. one i j (get_or now (i * 3 + j) (pos 0)) (ℕ_discrete i p)));
      }
    where
      all : ℕ → ℕ → ℤ → ℤ
      all = all_closing finishes period earned actual

      one : (i j : ℕ) (z : ℤ) → Dec (i ≡ p) → of_row p (closing (get_or finishes period 0) earned actual (get_or finishes p 0)) i j z ≡ of_calendar (λ (q : ℕ). q) p all i j z
      one i j z (yes e) = rw e
      one i j z (no e) = rw (ne_eqb p i (λ q. e (sym q)), ne_eqb i p e)

  -- the entry's period was marked before
  pub entered_all :
      (figures : List ℤ) {n : ℕ} → length figures ≡ n * 3 → period < n → before ≡ set figures (period * 3) (pos 1) → n ≤ p →
      Changed 3 (entered finishes period earned actual) figures now
  entered_all figures {n} long h e most =
      let same : before ≡ set figures (period * 3 + 0) (pos 1) = let z : period * 3 ≡ period * 3 + 0 = omega arith in e ∙ ap (λ (k : ℕ). set figures k (pos 1)) z in
      changed_same
      (changed_then (rw (← same) at (changed_figure {width = 3} period 0 (λ z. pos 1) figures (pos 1) (omega arith) (omega arith) refl))
      (first_all (λ (q : ℕ). q) (all_closing finishes period earned actual) p c.changed n (ap length same ∙ length-set figures (period * 3 + 0) (pos 1) ∙ long) (λ i l. omega arith)))
      (entered finishes period earned actual)
      (λ i j l k. one i j l (get_or figures (i * 3 + j) (pos 0)) (eqb period i) refl)
    where
      one :
          (i j : ℕ) → j < 3 → (z : ℤ) (b : Bool) → eqb period i ≡ b →
          all_closing finishes period earned actual i j (cond (eqb period i) (of_figure 0 (λ z. pos 1) j z) z) ≡ entered finishes period earned actual i j z
      one i zero l z b e = rw e
      one i (suc zero) l z b e = ap (all_closing finishes period earned actual i 1) (cond_same (eqb period i) z)
      one i (suc (suc zero)) l z b e = ap (all_closing finishes period earned actual i 2) (cond_same (eqb period i) z)
      one i (suc (suc (suc j))) l z b e = absurd (omega arith)
