-- The laws of the format, over the whole book.
use Rattle.std.specs.Prelude.{Err, Ok}
use Prim.Native.Nat.{ℕ, ◌≤◌, ◌<◌}
use native.Mathlib.Omega.{arith}
use mathlib.Core.Path.{◌≡◌, refl, ap, sym, ◌∙◌}
use mathlib.Core.List.{List, [], append-nil}
use lib.ListN.{length, drop}
use lib.Seq.{drop-length}
use borrow.Author.Tests.{lt-ltb}
use Rattle.format.specs.Reader.{place_of}
use Rattle.format.specs.Bytes.{Bytes}
use Rattle.format.specs.Inverse.{never}
use Rattle.format.specs.Book.{Book}
use Rattle.format.specs.Format.{book}
use Rattle.format.specs.Verdict.{begin, end, verdict, content, answer_of, answer_number, Accepted, WellFormed}
use Rattle.format.specs.InRange.{Limits, InRange}
use Rattle.format.proofs.Sound.{codec_inverse}
use Rattle.format.proofs.Verdict.{read_written, verdict_written, begins, held, ends, verdict_place}
use Rattle.format.proofs.InRange.{fields_limits, fields_in_range}
use Rattle.format.specs.declared.Reason.TheVariants.{BookTooLong}
use Rattle.format.proofs.WellFormed.{fields_well_formed}
use Rattle.format.specs.Position.{Pos, refused}
use Rattle.format.specs.declared.Refusal.{Refusal}

-- 1. A well-formed book, written, is accepted and reads back as itself.
module _ (b : Book) (w : WellFormed b) where
  pub written_accepted : Accepted (book.write b)
  written_accepted = record { bytes = book.bytes b; whole = verdict_written b w }

  pub written_content : content (book.write b) ≡ b
  unfolding content
  written_content = ap (λ (x : Book × Pos). x.0) (read_written b w)

-- 2. An accepted byte string is exactly what its content writes.
module _ (s : List ℕ) (w : Accepted s) where
  pub content_written : book.write (content s) ≡ s
  content_written =
      let z : drop (length s) s ≡ [] = drop-length s in
      sym ((held s (length s) w.whole w.bytes).text ∙ rw z (append-nil (book.write (content s))))

-- So two accepted byte strings of equal content are equal.
pub same_content : (s t : List ℕ) → Accepted s → Accepted t → content s ≡ content t → s ≡ t
same_content s t w u e = sym (content_written s w) ∙ ap book.write e ∙ content_written t u

-- 3. The content of an accepted byte string is well-formed, and keeps the limits and ranges field by field.
module _ (s : List ℕ) (w : Accepted s) where
  pub content_well_formed : WellFormed (content s)
  content_well_formed =
      let short : length s ≤ 60000 = (begins s (length s) w.whole).0 in
      record { fields = (held s (length s) w.whole w.bytes).fine; short = rw (content_written s w) short }

  pub content_limits : Limits (content s)
  content_limits = fields_limits (content s) content_well_formed.fields

  pub content_in_range : InRange (content s)
  content_in_range = fields_in_range (content s) content_well_formed.fields

-- Nothing else is asked of a book but its length.
pub in_range_well_formed : (b : Book) → Limits b → InRange b → length (book.write b) ≤ 60000 → WellFormed b
in_range_well_formed b n h l = record { fields = fields_well_formed b n h; short = l }

-- 4. The place of a refusal is never beyond the length.
pub refusal_place : (s : List ℕ) (e : Refusal) → verdict s ≡ Err e → e.place ≤ length s
unfolding place_of
refusal_place s e h = rw h at (verdict_place s)

-- What is refused, no well-formed book writes.
pub refused_unwritten : (s : List ℕ) (e : Refusal) → verdict s ≡ Err e → (b : Book) → WellFormed b → book.write b ≡ s → ⊥
refused_unwritten s e h b w k = never (sym h ∙ rw k at (verdict_written b w))

-- Over 60,000 bytes are refused with 1, whatever they hold.
pub long_refused : (s : List ℕ) → 60000 < length s → (verdict s ≡ refused BookTooLong 0) × (answer_number (answer_of (verdict s)) ≡ 1)
unfolding verdict begin end answer_number answer_of
long_refused s h =
    let so : verdict s ≡ refused BookTooLong 0 = rw (verdict, lt-ltb 60000 (length s) h, (codec_inverse book).stays s (record { reason = BookTooLong; place = 0 })) in
    (so, ap (λ (p : Pos). answer_number (answer_of p)) so)

-- 5. A verdict that is no refusal accepts, and so does an answer that is none.
pub verdict_accepts : (s : List ℕ) → Bytes s → (j : ℕ) → verdict s ≡ Ok j → Accepted s
verdict_accepts s b j h = let z : j ≡ length s = ends s j h b in record { bytes = b; whole = rw (← z) h }

answer_at : (c : Pos) → answer_of c ≡ Ok tt → (j : ℕ) × (c ≡ Ok j)
unfolding answer_of
answer_at (Ok j) h = (j, refl)
answer_at (Err e) h = let z : ◌≡◌ {A = ℕ} 0 1 = cc in absurd (omega arith)

pub answer_accepts : (s : List ℕ) → Bytes s → answer_of (verdict s) ≡ Ok tt → Accepted s
answer_accepts s b h = let j = answer_at (verdict s) h in verdict_accepts s b j.0 j.1

pub accepted_answer : (s : List ℕ) → Accepted s → answer_of (verdict s) ≡ Ok tt
unfolding answer_of
accepted_answer s w = rw w.whole
