-- What a table of days shows after dates of it were set, one after the other.
use Rattle.std.specs.Prelude.{None, Option, Some, unwrap_or}
use Prim.Native.Nat.{ℕ, suc, ◌+◌, ◌-◌, ◌≤◌, ◌<◌}
use mathlib.Core.Path.{◌≡◌, refl, ap, ◌∙◌}
use mathlib.Core.Bool.{Bool, true, false, not, cond, ◌&&◌, ◌||◌}
use mathlib.Core.List.{List, [], ◌∷◌, map}
use native.Mathlib.Omega.{arith}
use borrow.Author.Tests.{le-leb, leb-true, eqb-true, eqb-false, ne_eqb}
use lib.Dec.{eqb, leb}
use lib.ListN.{length, get_or, set, length-set}
use lib.Seq.{get_or-set_same, get_or-set_other}
use Rattle.lists.specs.Lists.{any}
use Rattle.format.specs.Reader.{many}
use Rattle.format.specs.Codec.{Codec, times}
use Rattle.format.specs.Book.{Exception, Calendar}
use Rattle.format.specs.InRange.{Rising, CalendarInRange}
use Rattle.model.specs.Calendar.{is_listed, exception_on, is_region_holiday, usually_works, is_working}
use Rattle.calendar.specs.Tables.{usual, entry, one, Shows, marked, overlaid}
use Rattle.format.specs.Position.{Pos}

-- ---- one date

pub length_marked : (base date : ℕ) (works : Bool) (days : List ℕ) → length (marked base date works days) ≡ length days
unfolding marked
length_marked base date works days = go (leb base date)
  where
    go : (b : Bool) → length (cond b (set days (date - base) (one works)) days) ≡ length days
    go true = length-set days (date - base) (one works)
    go false = refl

module _ (base date : ℕ) (first : base ≤ date) (days : List ℕ) where
  marked_same : (works : Bool) → date - base < length days → entry base (marked base date works days) date ≡ one works
  unfolding marked
  marked_same works h = rw (le-leb base date first) (get_or-set_same days (date - base) (one works) 0 h)

  marked_other : (d : ℕ) (works : Bool) → (date ≡ d → ⊥) → entry base (marked base d works days) date ≡ entry base days date
  unfolding marked
  marked_other d works n = go (leb base d) refl
    where
      go : (b : Bool) → leb base d ≡ b → entry base (cond b (set days (d - base) (one works)) days) date ≡ entry base days date
      go true e = get_or-set_other days (d - base) (date - base) (one works) 0 (λ q. n (omega (arith, leb-true base d e)))
      go false e = refl

  pub marked_is : date - base < length days → (d : ℕ) (works b : Bool) → entry base days date ≡ one b → entry base (marked base d works days) date ≡ one (cond (eqb date d) works b)
  marked_is h d works b e = go (eqb date d) refl
    where
      go : (t : Bool) → eqb date d ≡ t → entry base (marked base d works days) date ≡ one (cond t works b)
      go true q = rw (← eqb-true date d q) (marked_same works h)
      go false q = marked_other d works (eqb-false date d q) ∙ e

-- ---- a list

-- what the last element on a date says of it
abbrev last_on : {A : Type 0} → (A → ℕ) → (A → Bool) → ℕ → List A → Bool → Bool
last_on day works date [] b = b
last_on day works date (x ∷ xs) b = last_on day works date xs (cond (eqb date (day x)) (works x) b)

module _ {A : Type 0} (base : ℕ) (day : A → ℕ) (works : A → Bool) where
  length_overlaid : (xs : List A) (days : List ℕ) → length (overlaid base day works xs days) ≡ length days
  unfolding overlaid
  length_overlaid [] days = refl
  length_overlaid (x ∷ xs) days = length_overlaid xs (marked base (day x) (works x) days) ∙ length_marked base (day x) (works x) days

  overlaid_is :
      (date : ℕ) → base ≤ date → (xs : List A) (days : List ℕ) → date - base < length days → (b : Bool) → entry base days date ≡ one b →
      entry base (overlaid base day works xs days) date ≡ one (last_on day works date xs b)
  unfolding overlaid
  overlaid_is date first [] days h b e = e
  overlaid_is date first (x ∷ xs) days h b e =
      overlaid_is date first xs (marked base (day x) (works x) days) (omega (arith, length_marked base (day x) (works x) days)) _ (marked_is base date first days h (day x) (works x) b e)

listed : (works : Bool) (date : ℕ) (xs : List ℕ) (b : Bool) → last_on (λ (d : ℕ). d) (λ d. works) date xs b ≡ cond (is_listed xs date) works b
unfolding any
listed works date [] b = refl
listed works date (d ∷ ds) b = listed works date ds (cond (eqb date d) works b) ∙ go (eqb date d) (any (eqb date) ds)
  where
    go : (s t : Bool) → cond t works (cond s works b) ≡ cond (s || t) works b
    go true true = refl
    go true false = refl
    go false true = refl
    go false false = refl

-- of rising exceptions at most one is on a date: the first on it is the last
abbrev day_of : Exception → ℕ
day_of e = e.day

none_later : (date : ℕ) (es : List Exception) → ((k : ℕ) → k < length (map day_of es) → date < get_or (map day_of es) k 0) → exception_on es date ≡ None
unfolding exception_on
none_later date [] h = refl
none_later date (e ∷ es) h = rw (ne_eqb date e.day (λ q. omega (arith, h 0 (omega arith)))) (none_later date es (λ k l. h (suc k) (omega arith)))

excepted : (date : ℕ) (es : List Exception) (b : Bool) → Rising (map day_of es) → last_on day_of (λ e. e.working) date es b ≡ unwrap_or (exception_on es date) b
unfolding exception_on
excepted date [] b r = refl
excepted date (e ∷ es) b r = go (eqb date e.day) refl (λ d. excepted date es d (λ j k h l. r (suc j) (suc k) (omega arith) (omega arith)))
  where
    go :
        (t : Bool) → eqb date e.day ≡ t → ((d : Bool) → last_on day_of (λ e. e.working) date es d ≡ unwrap_or (exception_on es date) d) →
        last_on day_of (λ e. e.working) date es (cond t e.working b) ≡ unwrap_or (cond t (Some e.working) (exception_on es date)) b
    go true q rest =
        rest e.working
        ∙ ap (λ (o : Option Bool). unwrap_or o e.working) (none_later date es (λ k l. omega (arith, eqb-true date e.day q, r 0 (suc k) (omega arith) (omega arith))))
    go false q rest = rest b

-- ---- a calendar

-- the extra days over the holidays over the region and the week
in_order : (extra holiday region week : Bool) → cond extra true (cond holiday false (not region && week)) ≡ extra || (not (holiday || region) && week)
in_order true holiday region week = refl
in_order false true region week = refl
in_order false false region week = refl

days_over :
    (base date : ℕ) → base ≤ date → (works : Bool) (xs days : List ℕ) (b : Bool) {after : List ℕ} → after ≡ overlaid base (λ (day : ℕ). day) (λ day. works) xs days →
    date - base < length days → entry base days date ≡ one b → entry base after date ≡ one (cond (is_listed xs date) works b)
days_over base date first works xs days b m h e =
    ap (λ (t : List ℕ). entry base t date) m ∙ overlaid_is base (λ (day : ℕ). day) (λ day. works) date first xs days h b e ∙ ap one (listed works date xs b)

-- the week and the region, overlaid with the holidays, then the extra days, then the exceptions
pub shows_working :
    (c : Calendar) → CalendarInRange c → (from to : ℕ) → {days free plain after : List ℕ} → to + 1 - from ≤ length days →
    Shows (usual c.week c.region) from to days →
    free ≡ overlaid from (λ (day : ℕ). day) (λ day. false) c.holidays days →
    plain ≡ overlaid from (λ (day : ℕ). day) (λ day. true) c.extra_days free →
    after ≡ overlaid from day_of (λ e. e.working) c.exceptions plain →
    Shows (is_working c) from to after
unfolding is_working usually_works
shows_working c r from to {days} {free} {plain} {after} n s x y z = record { at = at }
  where
    long : length free ≡ length days
    long = ap length x ∙ length_overlaid from (λ (day : ℕ). day) (λ day. false) c.holidays days

    long_plain : length plain ≡ length days
    long_plain = ap length y ∙ length_overlaid from (λ (day : ℕ). day) (λ day. true) c.extra_days free ∙ long

    at : (date : ℕ) → from ≤ date → date ≤ to → entry from after date ≡ one (is_working c date)
    at date h k =
        let u = days_over from date h false c.holidays days (usual c.week c.region date) x (omega arith) (s.at date h k) in
        let v = days_over from date h true c.extra_days free _ y (omega (arith, long)) u in
        ap (λ (t : List ℕ). entry from t date) z
        ∙ overlaid_is from day_of (λ e. e.working) date h c.exceptions plain (omega (arith, long_plain)) _ v
        ∙ ap one
        (excepted date c.exceptions _ r.exceptions.rising
        ∙ ap (unwrap_or (exception_on c.exceptions date)) (in_order (is_listed c.extra_days date) (is_listed c.holidays date) (is_region_holiday c.region date) _))

-- ---- a list that is read

module _ {X A : Type 0} (base : ℕ) (day : A → ℕ) (works : A → Bool) (c : X → Codec A) (f : X → A → X) (s : List ℕ) (n : ℕ) (x : X) (p : Pos) (days : List ℕ) where
  -- i of the n elements from p on are overlaid: they leave the state y and the table t, and the next begins at q
  pub record Overlaying (i : ℕ) (y : X) (q : Pos) (t : List ℕ) : Type 0 where
    pub most : i ≤ n
    pub rest : overlaid base day works ((times c f (n - i) y).read s q).0 t ≡ overlaid base day works ((times c f n x).read s p).0 days

  pub overlaying_none : Overlaying 0 x p days
  overlaying_none = record { most = omega arith; rest = let e : n - 0 ≡ n = omega arith in rw e }

one_more :
    {X A : Type 0} (base : ℕ) (day : A → ℕ) (works : A → Bool) (c : X → Codec A) (f : X → A → X) (s : List ℕ) (m : ℕ) (y : X) (q : Pos) (t : List ℕ) {v : A} {r : Pos} →
    (v, r) ≡ (c y).read s q →
    overlaid base day works ((times c f m (f y v)).read s r).0 (marked base (day v) (works v) t) ≡ overlaid base day works ((times c f (suc m) y).read s q).0 t
unfolding times many overlaid
one_more {X} {A} base day works c f s m y q t e =
    ap (λ (u : A × Pos). overlaid base day works (many (λ z. (c z).read) f m (f y u.0) s u.1).0 (marked base (day u.0) (works u.0) t)) e

module _
    {X A : Type 0} {base : ℕ} {day : A → ℕ} {works : A → Bool} {c : X → Codec A} {f : X → A → X} {s : List ℕ} {n : ℕ} {x : X} {p : Pos} {days : List ℕ}
    {i : ℕ} {y : X} {q : Pos} {t : List ℕ} (g : Overlaying base day works c f s n x p days i y q t) where
  pub overlaying_more :
      i < n → {v : A} {r : Pos} → (v, r) ≡ (c y).read s q → {u : List ℕ} → u ≡ marked base (day v) (works v) t → Overlaying base day works c f s n x p days (i + 1) (f y v) r u
  overlaying_more h {v} {r} e m =
      let k : n - i ≡ suc (n - (i + 1)) = omega arith in
      record { most = omega arith; rest = rw m (one_more base day works c f s (n - (i + 1)) y q t e ∙ rw k at g.rest) }

  pub overlaying_end : n ≤ i → t ≡ overlaid base day works ((times c f n x).read s p).0 days
  unfolding times many overlaid
  overlaying_end h = let k : n - i ≡ 0 = omega arith in rw k at g.rest

  pub overlaying_long : n ≤ i → length t ≡ length days
  overlaying_long h = ap length (overlaying_end h) ∙ length_overlaid base day works ((times c f n x).read s p).0 days
