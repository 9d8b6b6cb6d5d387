-- The table of answers, line by line.
use Rattle.std.specs.Prelude.{Result, Ok, Err}
use Prim.Native.Nat.{ℕ, ◌≤◌, ◌<◌}
use mathlib.Core.Path.{◌≡◌, refl, sym, subst, ap, ap₂, ◌∙◌}
use native.Mathlib.Omega.{arith}
use mathlib.Core.Bool.{Bool, true, false, cond}
use mathlib.Core.List.{List, [], ◌∷◌, ◌++◌}
use lib.Dec.{ltb}
use lib.ListN.{length, drop}
use borrow.Author.Tests.{le-leb, lt-leb, lt-ltb, le-ltb, ltb-true}
use Rattle.format.specs.Book.{Book}
use Rattle.format.specs.declared.Reason.{Reason}
use Rattle.format.specs.declared.Refusal.{Refusal}
use Rattle.format.specs.Verdict.{verdict, content}
use Rattle.book.proofs.Plan.{activities_count}
use Rattle.rows.specs.Rows.{numbers}
use Rattle.answers.specs.declared.open.Opened.{Opened}
use Rattle.answers.specs.Rows.{Rows}
use Rattle.answers.specs.Opened.{IsOpened, IsAsked}
use Rattle.format.specs.declared.Reason.TheVariants.{TooShort, UnknownActivity}
use Rattle.format.specs.Position.{refused}
use Rattle.answers.specs.Calls.{Condition, is_activity, activity_asked, checked, reply_at, Met, fitted, lent_after, Puts, PutsIf, reply_number, reply_place, reply, left, Answers, Returns}
use Rattle.answers.specs.Reply.{Reply}

-- refused and not refused
pub differ : {A : Type 0} → true ≡ false → A
differ e = let z : ◌≡◌ {A = ℕ} 0 1 = cc in absurd (omega arith)

-- ---- what is asked

pub in_book : (book : Book) (i n : ℕ) → length book.activities ≡ n → i < n → is_activity i book ≡ true
unfolding is_activity
in_book book i n e h = rw (e, lt-ltb i n h) refl

pub not_in_book : (book : Book) (i n : ℕ) → length book.activities ≡ n → n ≤ i → is_activity i book ≡ false
unfolding is_activity
not_in_book book i n e h = rw (e, le-ltb i n h) refl

pub none_asked : {book : Book} → Met [] book
unfolding checked
none_asked = record { passes = λ r. refl }

pub met : {book : Book} {c : Condition} {cs : List Condition} → c.holds book ≡ true → Met cs book → Met (c ∷ cs) book
unfolding checked
met e m = record { passes = λ r. rw e (m.passes r) }

-- one more condition behind the others is asked last
checked_last : (cs : List Condition) (c : Condition) (book : Book) (r : Reply) → checked (cs ++ (c ∷ [])) book r ≡ checked cs book (checked (c ∷ []) book r)
unfolding checked
checked_last [] c book r = refl
checked_last (d ∷ cs) c book r = ap (λ (x : Reply). cond (d.holds book) x (refused d.reason 0)) (checked_last cs c book r)

-- a refusal, as what is answered
abbrev failing : Refusal → Reply
failing e = Err e

-- no result is both
both_ways : {A T : Type 0} (o : T) (e : Refusal) → ◌≡◌ {A = Result T Refusal} (Ok o) (Err e) → A
both_ways o e h = let z : ◌≡◌ {A = ℕ} 0 1 = cc in absurd (omega arith)

refusal_of : {T : Type 0} (d e : Refusal) → ◌≡◌ {A = Result T Refusal} (Err d) (Err e) → d ≡ e
refusal_of d e h = cc

opened_of : (o q : Opened) → ◌≡◌ {A = Result Opened Refusal} (Ok o) (Ok q) → o ≡ q
opened_of o q h = cc

-- a book that is refused, and one that is opened
pub refused_so : {s : List ℕ} {e : Refusal} → verdict s ≡ Err e → {a : Result Opened Refusal} → a ≡ Err e → IsAsked [] s a
unfolding checked
refused_so {s} {e} h {a} g =
    rw g
    (record {
      refuses = λ d f answer. rw h (ap failing (refusal_of {T = Opened} e d f));
      opens = λ o f. both_ways o e (sym f);
      meets = λ o f. both_ways o e (sym f);
    })

pub opened_so : {s : List ℕ} {o : Opened} → IsOpened s o → IsAsked [] s (Ok o)
opened_so {s} {o} h =
    record {
      refuses = λ e f. both_ways o e f;
      opens = λ q f. subst (IsOpened s) (opened_of o q f) h;
      meets = λ q f. none_asked;
    }

module _ {cs : List Condition} {s : List ℕ} {r : Result Opened Refusal} (w : IsAsked cs s r) where
  -- what is opened is asked so
  pub asked_so : {o : Opened} → r ≡ Ok o → IsAsked cs s (Ok o)
  asked_so e = subst (IsAsked cs s) e w

  -- what is refused stays so
  pub still_refused : {e : Refusal} → r ≡ Err e → (c : Condition) → {a : Result Opened Refusal} → a ≡ Err e → IsAsked (cs ++ (c ∷ [])) s a
  still_refused {e} h c {a} g =
      let refuses : (answer : Reply) → reply_at (verdict s) (checked (cs ++ (c ∷ [])) (content s) answer) ≡ Err e =
      λ answer. rw (checked_last cs c (content s) answer) (w.refuses e h (checked (c ∷ []) (content s) answer)) in
      rw g
      (record {
        refuses = λ d f answer. refuses answer ∙ ap failing (refusal_of {T = Opened} e d f);
        opens = λ o f. both_ways o e (sym f);
        meets = λ o f. both_ways o e (sym f);
      })

-- one condition more, of what is opened
module _ {cs : List Condition} {s : List ℕ} {o : Opened} (w : IsAsked cs s (Ok o)) (c : Condition) where
  pub asked_met : c.holds (content s) ≡ true → IsAsked (cs ++ (c ∷ [])) s (Ok o)
  unfolding checked
  asked_met h =
      record {
        refuses = λ e f. both_ways o e f;
        opens = w.opens;
        meets = λ q f. record { passes = λ answer. rw (checked_last cs c (content s) answer, h) ((w.meets o refl).passes answer) };
      }

  pub asked_unmet : c.holds (content s) ≡ false → IsAsked (cs ++ (c ∷ [])) s (refused c.reason 0)
  unfolding checked
  asked_unmet h =
      let refuses : (answer : Reply) → reply_at (verdict s) (checked (cs ++ (c ∷ [])) (content s) answer) ≡ refused c.reason 0 =
      λ answer. rw ((w.opens o refl).accepted.1, checked_last cs c (content s) answer, h) ((w.meets o refl).passes (refused c.reason 0)) in
      record {
        refuses = λ e f answer. refuses answer ∙ ap (λ (x : Refusal). failing x) (refusal_of {T = Opened} _ e f);
        opens = λ q f. both_ways q _ (sym f);
        meets = λ q f. both_ways q _ (sym f);
      }

-- the first that is asked for is in the book
pub asked_in_book : {i : ℕ} {cs : List Condition} {s : List ℕ} {o : Opened} → IsAsked (activity_asked i ∷ cs) s (Ok o) → i < o.plan.activities.count
unfolding is_activity checked reply_number
asked_in_book {i} {cs} {s} {o} w = rw (← activities_count (w.opens o refl).plan) (go (ltb i (length (content s).activities)) refl ((w.meets o refl).passes (Ok 0)))
  where
    go : (b : Bool) → ltb i (length (content s).activities) ≡ b → cond b (checked cs (content s) (Ok 0)) (refused UnknownActivity 0) ≡ Ok 0 → i < length (content s).activities
    go true f m = ltb-true i (length (content s).activities) f
    go false f m = let z : ◌≡◌ {A = ℕ} 8 0 = ap reply_number m in absurd (omega arith)

-- ---- the rows

-- where the figures pass their test
module _ {reason : Reason} {rows : Rows} {out after : List ℕ} {r : Reply} where
  pub puts_if : {passes : Bool} → passes ≡ true → Puts rows out r after → PutsIf passes reason rows out r after
  puts_if e p = record { answer = rw e p.answer; lent = p.lent }

  pub if_puts : {passes : Bool} → passes ≡ true → PutsIf passes reason rows out r after → Puts rows out r after
  if_puts e p = record { answer = p.answer ∙ ap (λ (b : Bool). cond b (fitted rows (length out)) (refused reason 0)) e; lent = p.lent }

-- and where they do not
pub puts_failed : {passes : Bool} {reason : Reason} {rows : Rows} {out : List ℕ} → passes ≡ false → PutsIf passes reason rows out (refused reason 0) out
unfolding lent_after
puts_failed e = record { answer = rw e refl; lent = refl }

module _ (rows : Rows) (out : List ℕ) where
  pub too_short : length out < length (numbers rows) → Puts rows out (refused TooShort 0) out
  unfolding fitted lent_after
  too_short h = record { answer = rw (lt-leb (length (numbers rows)) (length out) h) refl; lent = refl }

  -- the rows in front, and then what was there
  pub filled :
      (n : ℕ) → n ≡ length rows → (m : ℕ) → m ≡ length (numbers rows) → m ≤ length out → (front : List ℕ) → front ≡ numbers rows →
      Puts rows out (Ok n) (front ++ drop m out)
  unfolding fitted lent_after
  filled n e m is h front f =
      record {
        answer = rw (← is, le-leb m (length out) h, e) refl;
        lent = ap₂ (λ (l : List ℕ) (k : ℕ). l ++ drop k out) f is;
      }

-- ---- on any bytes

module _ (conditions : List Condition) (rows : Book → Rows) (s out : List ℕ) where
  -- what is answered is left so in lent memory
  answered : (r : Reply) → r ≡ reply conditions rows s (length out) → (after : List ℕ) → after ≡ lent_after r (rows (content s)) out → Answers conditions rows s out r after
  unfolding left
  answered r e after l = record { answer = e; lent = l ∙ ap (λ (x : Reply). lent_after x (rows (content s)) out) e }

  module _ {r : Result Opened Refusal} (w : IsAsked conditions s r) where
    pub call_refused : {e : Refusal} → r ≡ Err e → {a : Reply} → a ≡ Err e → Answers conditions rows s out a out
    unfolding reply lent_after
    call_refused {e} h g = rw g (answered (Err e) (sym (w.refuses e h (fitted (rows (content s)) (length out)))) out refl)

    pub call_answered : {o : Opened} → r ≡ Ok o → {a : Reply} {after : List ℕ} → Puts (rows (content s)) out a after → Answers conditions rows s out a after
    unfolding reply
    call_answered {o} e {a} {after} p =
        answered a (rw (w.opens o e).accepted.1 (p.answer ∙ sym ((w.meets o e).passes (fitted (rows (content s)) (length out))))) after p.lent

  -- where the rows are tested by a condition, behind those that were asked before
  pub call_tested :
      (c : Condition) {r : Result Opened Refusal} → IsAsked conditions s r → {o : Opened} → r ≡ Ok o → {a : Reply} {after : List ℕ} →
      PutsIf (c.holds (content s)) c.reason (rows (content s)) out a after → Answers (conditions ++ (c ∷ [])) rows s out a after
  unfolding reply checked left
  call_tested c w {o} e {a} {after} p =
      let lent = length out in
      let is : a ≡ reply (conditions ++ (c ∷ [])) rows s lent =
      rw ((w.opens o e).accepted.1, checked_last conditions c (content s) (fitted (rows (content s)) lent)) (p.answer ∙ sym ((w.meets o e).passes _)) in
      record { answer = is; lent = p.lent ∙ ap (λ (x : Reply). lent_after x (rows (content s)) out) is }

  -- as C has it
  pub returned :
      {r : Reply} {after : List ℕ} → Answers conditions rows s out r after → {number place : ℕ} → number ≡ reply_number r → place ≡ reply_place r → Returns conditions rows s out number place after
  returned a n p = record { returned = n ∙ ap reply_number a.answer; placed = p ∙ ap reply_place a.answer; lent = a.lent }
