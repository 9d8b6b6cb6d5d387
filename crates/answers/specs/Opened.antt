-- A book opened for a call: what is known of what `open` gives.
use Rattle.std.specs.Prelude.{ℕ, ◌≡◌, List, Result, Ok, Err}
use Rattle.format.specs.Verdict.{verdict, content}
use Rattle.book.specs.Plan.{IsPlanOf, IsLedgerOf}
use Rattle.answers.specs.declared.open.Opened.{Opened}
use Rattle.answers.specs.Calls.{Condition, checked, Met, reply_at}
use Rattle.answers.specs.Reply.{Reply}
use Rattle.format.specs.declared.Refusal.{Refusal}

-- s is an accepted book that has these lists, this technique and this forecast
pub record IsOpened (s : List ℕ) (r : Opened) : Type 0 where
  pub accepted : (i : ℕ) × (verdict s ≡ Ok i)
  pub plan : IsPlanOf s r.date r.plan
  pub ledger : IsLedgerOf s r.plan r.ledger
  pub technique : (content s).technique ≡ r.technique
  pub forecast : (content s).forecast ≡ r.forecast

-- s is refused, as a book or for one of these conditions, whatever would be answered; or it is an accepted book, opened, that meets them all
pub record IsAsked (conditions : List Condition) (s : List ℕ) (r : Result Opened Refusal) : Type 0 where
  pub refuses : (e : Refusal) → r ≡ Err e → (answer : Reply) → reply_at (verdict s) (checked conditions (content s) answer) ≡ Err e
  pub opens : (o : Opened) → r ≡ Ok o → IsOpened s o
  pub meets : (o : Opened) → r ≡ Ok o → Met conditions (content s)
