-- Marks: who is named, who has a line, and how many are marked.
use Prim.Native.Nat.{ℕ, suc, ◌+◌, ◌-◌, ◌≤◌, ◌<◌}
use native.Mathlib.Nat.{sub-zero}
use native.Mathlib.Numerals.{add-one}
use native.Mathlib.Omega.{arith}
use mathlib.Core.Path.{◌≡◌, refl, sym, ap, ap₂, ◌∙◌}
use mathlib.Core.Bool.{Bool, true, false, not, ◌||◌, or-true}
use mathlib.Core.List.{List, [], ◌∷◌, foldl, Memᴰ}
use lib.Dec.{eqb}
use lib.ListN.{length, set, replicate, length-set, length-replicate, get_or-replicate}
use lib.Seq.{get_or-set_same, get_or-set_other}
use borrow.Author.Tests.{eqb-true, eqb-false, eq-eqb}
use Rattle.format.specs.InRange.{Every, BudgetInRange, BudgetChangeInRange}
use Rattle.format.specs.Book.{Budget, BudgetChange, Book}
use Rattle.format.specs.Format.{names}
use Rattle.lists.specs.Lists.{any, span, cons_if, keep}
use Rattle.model.specs.Tree.{parents}
use Rattle.model.specs.Budgets.{is_named, has_line, line_accounts}
use Rattle.lists.proofs.Spans.{span_in_lem, in_span, span_length}
use Rattle.lists.proofs.Lists.{in_any, any_some, keep_in, in_keep, keep_length}
use Rattle.tree.specs.Figures.{MarksLeaves}
use Rattle.ledger.specs.Accounts.{account_at, budget_place, change_place, marked_by, is_marked, marked_of, MarksNamed, MarksLines}
use Rattle.ledger.proofs.Numbered.{small_given, same_place, activity_at_lem}
use Rattle.ledger.proofs.Changed.{kept_alike}
use Rattle.format.proofs.Every.{every_in}

-- ---- one mark

marked_one : (marks : List ℕ) (j k : ℕ) → k < length marks → is_marked (set marks j 1) k ≡ (eqb j k || is_marked marks k)
marked_one marks j k h = go (eqb j k) refl
  where
    go : (b : Bool) → eqb j k ≡ b → is_marked (set marks j 1) k ≡ (b || is_marked marks k)
    go true e = let same : j ≡ k = eqb-true j k e in rw (same, get_or-set_same marks k 1 0 h) refl
    go false e = ap (λ (m : ℕ). not (eqb m 0)) (get_or-set_other marks j k 1 0 (λ q. eqb-false j k e (sym q)))

in_turn : (a b c : Bool) → (a || (b || c)) ≡ ((b || a) || c)
in_turn true b c = ap (λ (x : Bool). x || c) (sym (or-true b))
in_turn false true c = refl
in_turn false false c = refl

-- ---- all marks

module _ {X : Type 0} (place : X → ℕ) where
  pub marked_length : (marks : List ℕ) (xs : List X) → length (foldl (marked_by place) marks xs) ≡ length marks
  marked_length marks [] = refl
  marked_length marks (x ∷ xs) = marked_length (set marks (place x) 1) xs ∙ length-set marks (place x) 1

  marked_all :
      (marks : List ℕ) (xs : List X) (k : ℕ) → k < length marks →
      is_marked (foldl (marked_by place) marks xs) k ≡ (any (λ (x : X). eqb (place x) k) xs || is_marked marks k)
  unfolding any
  marked_all marks [] k h = refl
  marked_all marks (x ∷ xs) k h =
      let rest = any (λ (y : X). eqb (place y) k) xs in
      marked_all (set marks (place x) 1) xs k (omega (arith, length-set marks (place x) 1))
      ∙ ap (λ (b : Bool). rest || b) (marked_one marks (place x) k h)
      ∙ in_turn rest (eqb (place x) k) (is_marked marks k)

any_alike : {A : Type 0} (p q : A → Bool) (xs : List A) → ((x : A) → Memᴰ x xs → p x ≡ q x) → any p xs ≡ any q xs
unfolding any
any_alike p q [] h = refl
any_alike p q (x ∷ xs) h = ap₂ (λ (b c : Bool). b || c) (h x (Memᴰ.head refl)) (any_alike p q xs (λ y m. h y (Memᴰ.tail m)))

none_marked : (k : ℕ) → k < 501 → is_marked (replicate 501 0) k ≡ false
none_marked k h = ap (λ (m : ℕ). not (eqb m 0)) (get_or-replicate 501 k 0 0 h)

last_two : (a b : Bool) → (a || (b || false)) ≡ (b || a)
last_two true b = sym (or-true b)
last_two false true = refl
last_two false false = refl

-- the budgets' accounts, and then those of the log
pub marks_named :
    (book : Book) (n : ℕ) → n ≤ 500 → Every (BudgetInRange n) book.budgets → Every (BudgetChangeInRange n) book.log →
    MarksNamed (foldl (marked_by change_place) (foldl (marked_by budget_place) (replicate 501 0) book.budgets) book.log) book
marks_named book n l r t k h =
    let bs = book.budgets in
    let log = book.log in
    let zeros : List ℕ = replicate 501 0 in
    let first = foldl (marked_by budget_place) zeros bs in
    let long : length zeros ≡ 501 = length-replicate {A = ℕ} 501 0 in
    let budgets : any (λ (b : Budget). eqb (budget_place b) k) bs ≡ any (λ (b : Budget). names b.activity (account_at k)) bs =
    any_alike (λ (b : Budget). eqb (budget_place b) k) (λ (b : Budget). names b.activity (account_at k)) bs
    (λ b q. same_place b.activity (small_given n b.activity l (every_in (BudgetInRange n) bs r b q).activity) k h)
    in
    let lines : any (λ (c : BudgetChange). eqb (change_place c) k) log ≡ any (λ (c : BudgetChange). names c.activity (account_at k)) log =
    any_alike (λ (c : BudgetChange). eqb (change_place c) k) (λ (c : BudgetChange). names c.activity (account_at k)) log
    (λ c q. same_place c.activity (small_given n c.activity l (every_in (BudgetChangeInRange n) log t c q).activity) k h)
    in
    marked_all change_place first log k (omega (arith, long, marked_length budget_place zeros bs))
    ∙ ap₂ (λ (a b : Bool). a || b) lines
    (marked_all budget_place zeros bs k (omega (arith, long)) ∙ ap₂ (λ (a b : Bool). a || b) budgets (none_marked k h))
    ∙ last_two (any (λ (c : BudgetChange). names c.activity (account_at k)) log) (any (λ (b : Budget). names b.activity (account_at k)) bs)

pub named_length : (book : Book) → length (foldl (marked_by change_place) (foldl (marked_by budget_place) (replicate 501 0) book.budgets) book.log) ≡ 501
named_length book =
    marked_length change_place (foldl (marked_by budget_place) (replicate 501 0) book.budgets) book.log
    ∙ marked_length budget_place (replicate 501 0) book.budgets ∙ length-replicate {A = ℕ} 501 0

-- ---- the parents are marked too

-- one of the kept numbers is k, where k is kept
one_kept : (test : ℕ → Bool) (n k : ℕ) → k < n → any (λ (i : ℕ). eqb i k) (keep test (span 0 n)) ≡ test k
one_kept test n k h = go (test k) (any (λ (i : ℕ). eqb i k) (keep test (span 0 n))) refl refl
  where
    go : (b c : Bool) → test k ≡ b → any (λ (i : ℕ). eqb i k) (keep test (span 0 n)) ≡ c → c ≡ b
    go true true e f = refl
    go false false e f = refl
    go true false e f = sym f ∙ in_any (λ (i : ℕ). eqb i k) k (keep test (span 0 n)) (in_keep test k (span 0 n) (in_span 0 n k (omega arith) (omega arith)) e) (eq-eqb k k refl)
    go false true e f =
        let found = any_some (λ (i : ℕ). eqb i k) (keep test (span 0 n)) f in
        let same : found.0 ≡ k = eqb-true found.0 k found.2 in
        sym (keep_in test found.0 (span 0 n) found.1).1 ∙ ap test same ∙ e

pub marks_lines :
    (book : Book) (leaves named marks : List ℕ) (n : ℕ) → n ≡ length (parents book) → n ≤ 500 → length named ≡ 501 → MarksLeaves leaves (parents book) → MarksNamed named book →
    marks ≡ foldl (marked_by (λ i. i)) named (marked_of leaves n) → MarksLines marks book
unfolding has_line
marks_lines book leaves named marks n m l long h g e i k =
    ap (λ (ms : List ℕ). is_marked ms i) e
    ∙ marked_all (λ i. i) named (marked_of leaves n) i (omega arith)
    ∙ ap₂ (λ (a b : Bool). a || b) (one_kept (is_marked leaves) n i (omega arith) ∙ ap not (h i k)) (g i (omega arith) ∙ ap (is_named book) (activity_at_lem i (omega arith)))

-- so those that are marked are those with a line
pub marked_accounts : (book : Book) (marks : List ℕ) (n : ℕ) → n ≡ length (parents book) → MarksLines marks book → marked_of marks n ≡ line_accounts book
unfolding line_accounts
marked_accounts book marks n e h =
    ap (marked_of marks) e
    ∙ kept_alike (is_marked marks) (has_line book) (span 0 (length (parents book))) (λ i m. h i (omega (arith, span_in_lem 0 (length (parents book)) i m)))

pub marked_most : (marks : List ℕ) (n : ℕ) → length (marked_of marks n) ≤ n
marked_most marks n = omega (arith, keep_length (is_marked marks) (span 0 n), span_length 0 n)

-- ---- the marked ones, one index after the other

module _ (test : ℕ → Bool) (n : ℕ) where
  -- those from i on
  abbrev pub onward : ℕ → List ℕ
  onward i = keep test (span i (n - i))

  pub onward_first : onward 0 ≡ keep test (span 0 n)
  onward_first = rw sub-zero

  onward_at : (i : ℕ) → i < n → onward i ≡ cons_if (test i) i (onward (i + 1))
  unfolding keep span
  onward_at i h =
      let m : n - i ≡ suc (n - (i + 1)) = omega arith in
      ap (λ (j : ℕ). keep test (span i j)) m ∙ ap (λ (k : ℕ). cons_if (test i) i (keep test (span k (n - (i + 1))))) (sym (add-one i))

  pub onward_taken : (i : ℕ) → i < n → test i ≡ true → onward i ≡ i ∷ onward (i + 1)
  onward_taken i h e = onward_at i h ∙ ap (λ (b : Bool). cons_if b i (onward (i + 1))) e

  pub onward_passed : (i : ℕ) → i < n → test i ≡ false → onward i ≡ onward (i + 1)
  onward_passed i h e = onward_at i h ∙ ap (λ (b : Bool). cons_if b i (onward (i + 1))) e

  pub onward_end : (i : ℕ) → n ≤ i → onward i ≡ []
  unfolding keep span
  onward_end i h = let m : n - i ≡ 0 = omega arith in ap (λ (j : ℕ). keep test (span i j)) m
