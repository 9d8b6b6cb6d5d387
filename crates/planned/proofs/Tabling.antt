-- The listed spans of a book are within a table of the days of its calendars.
use Prim.Native.Nat.{ℕ, ◌*◌, ◌≤◌, ◌<◌}
use mathlib.Core.Path.{◌≡◌, sym, ap, ◌∙◌}
use mathlib.Core.List.{List}
use native.Mathlib.Omega.{arith}
use lib.IntN.{ℤ}
use lib.ListN.{length}
use Rattle.format.specs.Book.{Book}
use Rattle.format.specs.InRange.{InRange, Limits}
use Rattle.calendar.proofs.Parts.{parts_room}
use Rattle.spans.specs.declared.Stretch.{Stretch}
use Rattle.spans.specs.Stretches.{CoversSpans}
use Rattle.baseline.specs.Listed.{listed_of, budgets_of, first_at, last_at, number_at}
use Rattle.baseline.proofs.Listing.{budgets_long_lem, listed_long_lem, listed_date, listed_named}
use Rattle.bydate.specs.Sizes.{dates_of}
use Rattle.laid.specs.Listed.{Covers}
use Rattle.planned.specs.Tabled.{AreTabled}

-- each begins on a date
pub spans_begin : (b : Book) {listed : List ℕ} → listed ≡ listed_of b → InRange b → (i : ℕ) → i < length b.activities → 0 < first_at listed i
spans_begin b l range i h = omega (arith, (listed_date b l range i h).first)

module _ (b : Book) {listed : List ℕ} {budgets : List ℤ} (l : listed ≡ listed_of b) (e : budgets ≡ budgets_of b) (range : InRange b) (limits : Limits b)
    {known : Stretch} (c : CoversSpans (first_at listed) (last_at listed) known) {days : List ℕ} (room : length b.calendars * dates_of known ≤ length days)
  where
    pub lists_tabled : AreTabled known.from (dates_of known) (length budgets) days listed
    lists_tabled =
        let n = budgets_long_lem b e in
        record {
          most = omega (arith, n, limits.activities);
          wide = omega (arith, c.most);
          long = listed_long_lem b l ∙ sym (ap (λ (k : ℕ). k * 3) n);
          few = λ i h. omega (arith, listed_named b l range limits.some_calendar i (omega (arith, n)), limits.calendars);
          covers = λ i h.
              let j : i < length b.activities = omega (arith, n) in
              let z = spans_begin b l range i j in
              record {
                start = c.begins i z;
                reach = omega (arith, c.ends i z, c.ahead, room, parts_room (dates_of known) (listed_named b l range limits.some_calendar i j));
                latest = omega (arith, c.ends i z, c.most);
              };
        }

-- ---- a span, by what is read of the table

module _ {base width n : ℕ} {days listed : List ℕ} (w : AreTabled base width n days listed) (i : ℕ) (h : i < n) where
  pub span_asked : ((number_at listed i ≤ 16) × (width ≤ 47482)) × Covers (number_at listed i * width) base days (first_at listed i) (last_at listed i)
  span_asked = ((w.few i h, w.wide), w.covers i h)
