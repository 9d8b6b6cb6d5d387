-- The distribution: what each account is handed from those right under it.
use Rattle.std.specs.Prelude.{None, Some}
use Prim.Native.Nat.{ℕ, zero, suc, ◌+◌, ◌*◌, ◌≤◌, ◌<◌}
use native.Mathlib.Omega.{arith}
use mathlib.Core.Path.{◌≡◌, refl, sym, ap, ap₂, ◌∙◌}
use mathlib.Core.Bool.{Bool, true, false}
use mathlib.Core.List.{List, [], ◌∷◌, map, foldl, Memᴰ}
use lib.Dec.{eqb}
use lib.IntN.{ℤ, pos}
use lib.ListN.{length, get_or, length-map}
use lib.Seq.{get_or-set_other}
use mir.Syntax.{w64}
use borrow.Author.Tests.{eqb-true, eqb-false, eq-eqb, ne_eqb}
use Rattle.integer.specs.Folds.{saturated}
use Rattle.format.specs.Book.{Activity, Book}
use Rattle.format.specs.Format.{names}
use Rattle.sections.specs.Sections.{mark_of}
use Rattle.sections.proofs.Marks.{Small, place_below}
use Rattle.lists.specs.Lists.{span, keep}
use Rattle.model.specs.Lookup.{no_activity}
use Rattle.model.specs.Tree.{parents, parent_of}
use Rattle.model.specs.Budgets.{Account, current_of, has_line, line_accounts, distributed_of}
use Rattle.lists.proofs.Lists.{map_same, keep_in, keep_none, at_map}
use Rattle.lists.proofs.Spans.{span_in_lem}
use Rattle.tree.specs.Figures.{saturating_add, MarksLeaves}
use Rattle.ledger.specs.Accounts.{account_at, account_row, booked, accounts, account_figure, current_in, marked_by, is_marked, marked_of, MarksLines, given_up}
use Rattle.ledger.specs.Arguments.{AreParents, IsBooked, IsHanded}
use Rattle.ledger.proofs.Numbered.{small_given, same_place, activity_at_lem, accounts_length, account_figure_lem, accounts_are}
use Rattle.ledger.proofs.Changed.{added_length, added_at}
use Rattle.ledger.proofs.Named.{marks_lines, marked_accounts, onward, onward_first, onward_taken, onward_passed, onward_end}

abbrev parent_in : Activity → Account
parent_in a = a.parent

module _ {book : Book} {numbers : List ℕ} (w : AreParents book numbers) where
  pub above_length : length numbers ≡ length book.activities
  above_length = ap length w.above ∙ length-map book.activities (λ (a : Activity). mark_of a.parent)

  -- the number that activity i names
  number_at : (i : ℕ) → i < length book.activities → get_or numbers i 0 ≡ mark_of (parent_of (parents book) i)
  unfolding parents
  number_at i h =
      ap (λ (ns : List ℕ). get_or ns i 0) w.above
      ∙ at_map (λ (a : Activity). mark_of a.parent) book.activities i no_activity 0 h
      ∙ ap mark_of (sym (at_map parent_in book.activities i no_activity None h))

  parent_small : (i : ℕ) → i < length book.activities → Small (parent_of (parents book) i)
  unfolding parents
  parent_small i h =
      rw (at_map parent_in book.activities i no_activity None h) (small_given (length book.activities) (get_or book.activities i no_activity).parent w.most (w.inside i no_activity h))

  pub number_below : (i : ℕ) → i < length numbers → get_or numbers i 0 < 501
  number_below i h = let k : i < length book.activities = omega (arith, above_length) in omega (arith, place_below (parent_of (parents book) i) (number_at i k))

  in_lines : (i : ℕ) → Memᴰ i (line_accounts book) → i < length book.activities
  unfolding line_accounts parents
  in_lines i m =
      omega (arith, span_in_lem 0 (length (parents book)) i (keep_in (has_line book) i (span 0 (length (parents book))) m).0, length-map book.activities parent_in)

  abbrev place : ℕ → ℕ
  place i = get_or numbers i 0 * 6 + 5

  abbrev given : ℕ → ℤ
  given i = current_in (booked book) i

  given_is : (i : ℕ) → i < 500 → given i ≡ current_of book (Some i)
  unfolding current_of account_row
  given_is i h =
      ap₂ saturating_add (account_figure_lem (λ (o : Account). pos 0) book i 0 (omega arith) (omega arith)) (account_figure_lem (λ (o : Account). pos 0) book i 3 (omega arith) (omega arith))
      ∙ ap (current_of book) (activity_at_lem i h)

  hits : (k : ℕ) → k < 501 → (i : ℕ) → Memᴰ i (line_accounts book) → eqb (place i) (k * 6 + 5) ≡ names (parent_of (parents book) i) (account_at k)
  hits k h i m =
      let l = in_lines i m in
      go (eqb (get_or numbers i 0) k) refl ∙ ap (λ (j : ℕ). eqb j k) (number_at i l) ∙ same_place (parent_of (parents book) i) (parent_small i l) k h
    where
      go : (b : Bool) → eqb (get_or numbers i 0) k ≡ b → eqb (place i) (k * 6 + 5) ≡ eqb (get_or numbers i 0) k
      go true e = let same : get_or numbers i 0 ≡ k = eqb-true (get_or numbers i 0) k e in eq-eqb (place i) (k * 6 + 5) (omega arith) ∙ sym e
      go false e = ne_eqb (place i) (k * 6 + 5) (λ q. eqb-false (get_or numbers i 0) k e (omega arith)) ∙ sym e

  handed : (k : ℕ) → k < 501 → account_figure (foldl (given_up numbers (booked book)) (booked book) (line_accounts book)) k 5 ≡ distributed_of book (account_at k)
  unfolding distributed_of account_row
  handed k h =
      let under : ℕ → Bool = λ (i : ℕ). names (parent_of (parents book) i) (account_at k) in
      added_at place given (k * 6 + 5) under (booked book) (line_accounts book) (omega (arith, accounts_length (λ (o : Account). pos 0) book)) (hits k h)
      ∙ ap (λ (z : ℤ). saturated w64 z (map given (keep under (line_accounts book)))) (account_figure_lem (λ (o : Account). pos 0) book k 5 h (omega arith))
      ∙ ap (saturated w64 (pos 0))
      (map_same given (λ (i : ℕ). current_of book (Some i)) (keep under (line_accounts book))
      (λ i q. let l = in_lines i (keep_in under i (line_accounts book) q).0 in given_is i (omega (arith, w.most))))

  -- the other figures stay
  stays : (k j : ℕ) → k < 501 → j < 5 → account_figure (foldl (given_up numbers (booked book)) (booked book) (line_accounts book)) k j ≡ account_figure (booked book) k j
  unfolding saturated
  stays k j h l =
      added_at place given (k * 6 + j) (λ i. false) (booked book) (line_accounts book) (omega (arith, accounts_length (λ (o : Account). pos 0) book))
      (λ i m. ne_eqb (place i) (k * 6 + j) (λ q. omega arith))
      ∙ ap (λ (is : List ℕ). saturated w64 (account_figure (booked book) k j) (map given is)) (keep_none (λ i. false) (line_accounts book) (λ i m. refl))

  pub handed_down : foldl (given_up numbers (booked book)) (booked book) (line_accounts book) ≡ accounts book
  unfolding account_row
  handed_down =
      accounts_are (distributed_of book) book (foldl (given_up numbers (booked book)) (booked book) (line_accounts book))
      (added_length place given (booked book) (line_accounts book) ∙ accounts_length (λ (o : Account). pos 0) book)
      (λ k j h l. go k h j l)
    where
      same : (k j : ℕ) → k < 501 → j < 5 → account_figure (foldl (given_up numbers (booked book)) (booked book) (line_accounts book)) k j ≡ get_or (account_row (λ (o : Account). pos 0) book (account_at k)) j (pos 0)
      same k j h l = stays k j h l ∙ account_figure_lem (λ (o : Account). pos 0) book k j h (omega arith)

      go : (k : ℕ) → k < 501 → (j : ℕ) → j < 6 → account_figure (foldl (given_up numbers (booked book)) (booked book) (line_accounts book)) k j ≡ get_or (account_row (distributed_of book) book (account_at k)) j (pos 0)
      go k h zero l = same k 0 h (omega arith)
      go k h (suc zero) l = same k 1 h (omega arith)
      go k h (suc (suc zero)) l = same k 2 h (omega arith)
      go k h (suc (suc (suc zero))) l = same k 3 h (omega arith)
      go k h (suc (suc (suc (suc zero)))) l = same k 4 h (omega arith)
      go k h (suc (suc (suc (suc (suc zero))))) l = handed k h
      go k h (suc (suc (suc (suc (suc (suc j)))))) l = absurd (omega arith)

  -- as the code does it
  pub all_handed :
      (marks : List ℕ) {before after : List ℤ} → before ≡ booked book → MarksLines marks book → after ≡ foldl (given_up numbers before) before (marked_of marks (length numbers)) →
      after ≡ accounts book
  unfolding parents
  all_handed marks e m g =
      g
      ∙ ap (λ (t : List ℤ). foldl (given_up numbers t) t (marked_of marks (length numbers))) e
      ∙ ap (foldl (given_up numbers (booked book)) (booked book)) (marked_accounts book marks (length numbers) (above_length ∙ sym (length-map book.activities parent_in)) m)
      ∙ handed_down

-- marked, and handed up
pub all_done :
    {book : Book} {numbers : List ℕ} (leaves : List ℕ) {marks marks' : List ℕ} {table table' : List ℤ} → AreParents book numbers → MarksLeaves leaves (parents book) → IsBooked book table marks →
    marks' ≡ foldl (marked_by (λ i. i)) marks (marked_of leaves (length numbers)) → table' ≡ foldl (given_up numbers table) table (marked_of marks' (length numbers)) → IsHanded book table' marks'
unfolding parents
all_done {book} {numbers} leaves {marks} {marks'} w l b m t =
    let count : length numbers ≡ length (parents book) = above_length w ∙ sym (length-map book.activities parent_in) in
    let lined : MarksLines marks' book = marks_lines book leaves marks marks' (length numbers) count (omega (arith, above_length w, w.most)) b.long l b.named m in
    record { table = all_handed w marks' b.table lined t; lined = lined }

-- where there is no activity nothing is handed up
pub none_handed : (book : Book) → length book.activities ≡ 0 → booked book ≡ accounts book
unfolding line_accounts parents span keep
none_handed book e =
    let empty : book.activities ≡ [] = nothing book.activities e in
    let w : AreParents book [] = record { most = omega arith; above = sym (ap (map (λ (a : Activity). mark_of a.parent)) empty); inside = λ i d l. absurd (omega arith) } in
    sym (ap (λ (xs : List Activity). foldl (given_up [] (booked book)) (booked book) (keep (has_line book) (span 0 (length (map parent_in xs))))) empty) ∙ handed_down w
  where
    nothing : (xs : List Activity) → length xs ≡ 0 → xs ≡ []
    nothing [] e = refl
    nothing (x ∷ xs) e = absurd (omega arith)

-- ---- one activity a turn

-- those before activity i have given: their parents' figures, and no current budget, have changed
pub record Giving (parents marks : List ℕ) (before : List ℤ) (i : ℕ) (out : List ℤ) : Type 0 where
  pub same : (k : ℕ) → current_in out k ≡ current_in before k
  pub rest : foldl (given_up parents before) out (onward (is_marked marks) (length parents) i) ≡ foldl (given_up parents before) before (marked_of marks (length parents))

pub giving_none : (parents marks : List ℕ) (before : List ℤ) → Giving parents marks before 0 before
giving_none parents marks before = record { same = λ k. refl; rest = ap (foldl (given_up parents before) before) (onward_first (is_marked marks) (length parents)) }

module _ {parents marks : List ℕ} {before : List ℤ} {i : ℕ} {out : List ℤ} (w : Giving parents marks before i out) where
  pub giving_more : i < length parents → is_marked marks i ≡ true → {out' : List ℤ} → out' ≡ given_up parents before out i → Giving parents marks before (i + 1) out'
  giving_more h t e =
      record {
        same = λ k. rw e (ap₂ saturating_add (apart k 0 (omega arith)) (apart k 3 (omega arith)) ∙ w.same k);
        rest =
            ap (λ (xs : List ℤ). foldl (given_up parents before) xs (onward (is_marked marks) (length parents) (i + 1))) e
            ∙ sym (ap (foldl (given_up parents before) out) (onward_taken (is_marked marks) (length parents) i h t))
            ∙ w.rest;
      }
    where
      apart : (k j : ℕ) → j < 5 → account_figure (given_up parents before out i) k j ≡ account_figure out k j
      apart k j l = get_or-set_other out (get_or parents i 0 * 6 + 5) (k * 6 + j) _ (pos 0) (λ q. omega arith)

  pub giving_past : i < length parents → is_marked marks i ≡ false → Giving parents marks before (i + 1) out
  giving_past h t =
      record { same = w.same; rest = sym (ap (foldl (given_up parents before) out) (onward_passed (is_marked marks) (length parents) i h t)) ∙ w.rest }

  pub giving_end : length parents ≤ i → out ≡ foldl (given_up parents before) before (marked_of marks (length parents))
  giving_end h = sym (ap (foldl (given_up parents before) out) (onward_end (is_marked marks) (length parents) i h)) ∙ w.rest
