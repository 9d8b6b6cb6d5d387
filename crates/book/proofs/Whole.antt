-- The whole book, from where its lists are.
use Prim.Native.Nat.{ℕ}
use mathlib.Core.Path.{◌≡◌, ap, ◌∙◌}
use mathlib.Core.List.{List}
use Rattle.format.specs.Book as book
use Rattle.format.specs.Reader.{Reader, both}
use Rattle.format.specs.Codec.{◌then◌, ◌&◌}
use Rattle.format.specs.Format as layout
use Rattle.format.specs.Verdict.{begin, end, content, verdict}
use Rattle.records.proofs.Parts.{iso_read}
use Rattle.book.specs.declared.layout.Layout.{Layout}
use Rattle.book.specs.Layout.{IsLayout, book_of}
use Rattle.sections.proofs.Lists.{list_read, up_to_read, counted_read}
use Rattle.format.specs.Position.{Pos}

-- one, then another
then_read :
    {A B : Type 0} (a : Reader A) (b : A → Reader B) (s : List ℕ) (p : Pos) {mid end : Pos} {x : A} {y : B} → (x, mid) ≡ a s p → (y, end) ≡ b x s mid →
    ((x, y), end) ≡ both a b s p
unfolding both
then_read a b s p e q = rw (← e, ← q)

-- what leads the book, then the rest of it
header_read :
    {A B C D E : Type 0} (a : Reader A) (b : Reader B) (c : Reader C) (d : Reader D) (rest : Reader E) (s : List ℕ) (p : Pos)
    {mid end : Pos} {x : A} {y : B} {z : C} {u : D} {v : E} →
    ((x, (y, (z, u))), mid) ≡ both a (λ x. both b (λ y. both c (λ z. d))) s p → (v, end) ≡ rest s mid →
    ((x, (y, (z, (u, v)))), end) ≡ both a (λ x. both b (λ y. both c (λ z. both d (λ u. rest)))) s p
unfolding both
header_read {A} {B} {C} {D} {E} a b c d rest s p {x} {y} {z} {u} e q =
    ap (λ (w : E × Pos). ((x, (y, (z, (u, w.0)))), w.1)) q
    ∙ ap (λ (w : (A × (B × (C × D))) × Pos). ((w.0.0, (w.0.1.0, (w.0.1.1.0, (w.0.1.1.1, (rest s w.1).0)))), (rest s w.1).1)) e

module _ (s : List ℕ) (r : Layout) (l : IsLayout s r) where
  book_read : (book_of s r, r.ledger.records.next) ≡ (layout.book).read s (begin s)
  unfolding book_of layout.book layout.budgets ◌&◌ ◌then◌
  book_read =
      let plan = l.plan in
      let ledger = l.ledger in
      iso_read _ _ _ _ _ s (begin s)
      (header_read _ _ _ _ _ s (begin s) l.header
      (counted_read 1 16 _ _ s _ plan.calendars
      (counted_read 0 500 _ _ s _ plan.activities
      (counted_read 0 200 _ _ s _ plan.resources
      (then_read _ _ s _ (up_to_read plan.assignments)
      (then_read _ _ s _ (up_to_read plan.expenses)
      (then_read _ _ s _ ledger.baseline
      (then_read _ _ s _ (list_read ledger.budgets)
      (then_read _ _ s _ (up_to_read ledger.log)
      (then_read _ _ s _ (up_to_read ledger.funds) (counted_read 0 240 _ _ s _ ledger.periods (up_to_read ledger.records))))))))))))

  pub layout_book : ◌≡◌ {A = book.Book × Pos} (book_of s r, r.end) (content s, verdict s)
  unfolding content verdict book_of
  layout_book = rw l.last (ap (λ (v : book.Book × Pos). (v.0, end s v.1)) book_read)
