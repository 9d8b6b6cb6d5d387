-- A loop over the budgets: those before are read, and what they name is marked.
use Rattle.std.specs.Prelude.{Option}
use Prim.Native.Nat.{ℕ, ◌+◌, ◌<◌, ◌≤◌}
use mathlib.Core.Path.{◌≡◌, sym, ap, subst}
use mathlib.Core.List.{List, [], ◌∷◌}
use lib.ListN.{drop, set, replicate}
use Rattle.format.specs.Book as book
use Rattle.format.specs.Field.{index}
use Rattle.format.specs.Codec.{O}
use Rattle.format.specs.Format.{budget}
use Rattle.format.specs.Verdict.{content}
use Rattle.sections.specs.declared.Section.{Section}
use Rattle.sections.specs.declared.budgets.Budget.{Budget}
use Rattle.sections.specs.Sections.{budget_of, mark_of}
use Rattle.sections.proofs.Marks.{Small, Marked, none_marked, one_marked, index_small, budget_small}
use Rattle.ledger.specs.Arguments.{IsBudgets, IsBudgetAt}
use Rattle.ledger.proofs.Reading.{Reading, reading_none, reading_more, reading_next, reading_end}
use Rattle.format.specs.Position.{Pos}

abbrev naming : List (Option ℕ) → book.Budget → List (Option ℕ)
naming before b = b.activity ∷ before

-- i of the budgets are read, and the next begins at q
pub record Naming (s : List ℕ) (n count i : ℕ) (marks : List ℕ) (q : Pos) : Type 0 where
  pub before : List (Option ℕ)
  pub reading : Reading (budget n) naming s (content s).budgets count i before q
  pub marked : Marked marks before

pub naming_none : {s : List ℕ} {list : Section} {n : ℕ} → IsBudgets s list n → {marks : List ℕ} → marks ≡ replicate 501 0 → Naming s n list.count 0 marks list.first
naming_none {s} {list} {n} ask e =
    record {
      before = [];
      reading = reading_none (budget n) naming s (content s).budgets [] list ask.listed;
      marked = subst (λ (m : List ℕ). Marked m []) (sym e) none_marked;
    }

module _ {s : List ℕ} {n count i : ℕ} {marks : List ℕ} {q : Pos} (w : Naming s n count i marks q) where
  pub naming_end : count ≤ i → drop i (content s).budgets ≡ []
  naming_end h = reading_end w.reading h

  module _ (most : n ≤ 500) (h : i < count) (b : Budget) (got : IsBudgetAt s n marks q b) where
    here : (budget_of s b, b.next) ≡ (budget n w.before).read s q
    here = let name = ((O (index n)).read s q).0 in got w.before (sym (w.marked.same name (index_small n s q most)))

    pub naming_next : drop i (content s).budgets ≡ budget_of s b ∷ drop (i + 1) (content s).budgets
    naming_next = reading_next w.reading h here

    small : Small b.activity
    unfolding budget_of
    small = subst Small (sym (ap (λ v. v.0.activity) here)) (budget_small n w.before s q most)

    pub naming_more : {marks' : List ℕ} → marks' ≡ set marks (mark_of b.activity) 1 → Naming s n count (i + 1) marks' b.next
    unfolding budget_of
    naming_more e =
        record {
          before = b.activity ∷ w.before;
          reading = reading_more w.reading h here;
          marked = subst (λ (m : List ℕ). Marked m (b.activity ∷ w.before)) (sym e) (one_marked w.marked b.activity small);
        }
