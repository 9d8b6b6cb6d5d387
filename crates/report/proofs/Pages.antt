-- The pages of a status: one behind the other they are its text. Assumes nothing.
use Rattle.std.specs.Prelude.{Err, Ok}
use Prim.Native.Nat.{ℕ, suc, ◌+◌, ◌*◌}
use native.Mathlib.Omega.{arith}
use mathlib.Core.Path.{◌≡◌, sym, ap, ap₂, ◌∙◌}
use mathlib.Core.List.{List, [], ◌++◌, flat_map, append-nil}
use Rattle.lists.specs.Lists.{span}
use Rattle.format.specs.Verdict.{verdict, content}
use Rattle.report.specs.Lines.{refusal_line, activity_lines}
use Rattle.report.specs.Status.{asked_at, total_line, earned_text, curve_text, text_at, status_text, EarnedIn, page_at, status_page}
use Rattle.report.proofs.Stretches.{joined}
use Rattle.format.specs.Position.{Pos}
use Rattle.format.specs.Refusals.{reason_number}
use Rattle.format.specs.declared.Refusal.{Refusal}

-- the text is its four pages, one behind the other
pub status_pages : (s : List ℕ) → status_text s ≡ flat_map (status_page s) (span 0 4)
unfolding status_text status_page flat_map span
status_pages s = go (verdict s)
  where
    go : (p : Pos) → text_at p (content s) ≡ page_at p (content s) 0 ++ (page_at p (content s) 1 ++ (page_at p (content s) 2 ++ (page_at p (content s) 3 ++ [])))
    go (Err e) = sym (append-nil (refusal_line (reason_number e.reason) e.place))
    go (Ok i) =
        let b = content s in
        ap (λ (t : List ℕ). earned_text b (asked_at b.data_date) ++ t)
        (joined b 10957 23131 47481 (omega arith) (omega arith)
        ∙ ap (λ (t : List ℕ). curve_text b 10957 23131 ++ t)
        (joined b 23132 35306 47481 (omega arith) (omega arith)
        ∙ ap (λ (t : List ℕ). curve_text b 23132 35306 ++ t) (sym (append-nil (curve_text b 35307 47481)))))

-- ---- what a page is, by the verdict
module _ (s : List ℕ) where
  pub refused_page : {e : Refusal} → verdict s ≡ Err e → refusal_line (reason_number e.reason) e.place ≡ status_page s 0
  unfolding status_page
  refused_page v = ap (λ (q : Pos). page_at q (content s) 0) (sym v)

  pub refused_pages : {e : Refusal} → verdict s ≡ Err e → (k : ℕ) → [] ≡ status_page s (suc k)
  unfolding status_page
  refused_pages v k = ap (λ (q : Pos). page_at q (content s) (suc k)) (sym v)

  earned_page : {j : ℕ} → verdict s ≡ Ok j → {day : ℕ} → day ≡ asked_at (content s).data_date → earned_text (content s) day ≡ status_page s 0
  unfolding status_page
  earned_page v d = ap (earned_text (content s)) d ∙ ap (λ (q : Pos). page_at q (content s) 0) (sym v)

  pub curve_page :
      {j : ℕ} → verdict s ≡ Ok j → (k from to : ℕ) → from ≡ 10957 + k * 12175 → to ≡ from + 12174 → curve_text (content s) from to ≡ status_page s (suc k)
  unfolding status_page
  curve_page v k from to f t = ap₂ (curve_text (content s)) f (t ∙ ap (λ (d : ℕ). d + 12174) f) ∙ ap (λ (q : Pos). page_at q (content s) (suc k)) (sym v)

-- the lines of the rows, and the total behind them
pub accepted_page :
    {s : List ℕ} {day count : ℕ} {lent : List ℕ} → EarnedIn s day count lent → {xs ys : List ℕ} → xs ≡ activity_lines lent count → ys ≡ xs ++ total_line (content s) day →
    ys ≡ status_page s 0
unfolding earned_text
accepted_page {s} {day} i e f = f ∙ ap (λ (l : List ℕ). l ++ total_line (content s) day) (e ∙ i.lines) ∙ earned_page s i.accepted.whole i.asked
