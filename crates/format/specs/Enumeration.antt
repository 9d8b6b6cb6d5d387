-- The enums of the book: each is a U, numbered from 0 in the order of the Rust's enum.
use Rattle.std.specs.Prelude.{ℕ, zero, suc, ◌≤◌, ◌<◌, ◌≡◌, refl, Bool, true, false, cond, eqb, ℤ, None, Option, Some}
use Rattle.std.proofs.Common.{le_of_suc-le-suc, arith, ap, sym, eqb-true}
use Rattle.std.proofs.Math.Decide.{dec_lt}
use Rattle.std.proofs.lemmas.Bool.{eqb-false}
use Rattle.format.specs.declared.Status.{Status}
use Rattle.format.specs.declared.Status.TheVariants.{NotStarted, InProgress, Completed}
use Rattle.format.specs.declared.EvTechnique.{EvTechnique}
use Rattle.format.specs.declared.EvTechnique.TheVariants.{Physical, Duration, Units, ZeroHundred, FiftyFifty, Custom}
use Rattle.format.specs.declared.EtcTechnique.{EtcTechnique}
use Rattle.format.specs.declared.EtcTechnique.TheVariants.{Remaining, Planned, Cpi, CpiSpi}
use Rattle.format.specs.declared.ResourceKind.{ResourceKind}
use Rattle.format.specs.declared.ResourceKind.TheVariants.{Labor, Nonlabor, Material}
use Rattle.format.specs.declared.Accrual.{Accrual}
use Rattle.format.specs.declared.Accrual.TheVariants.{Start, End, Uniform}
use Rattle.format.specs.declared.ChangeStatus.{ChangeStatus}
use Rattle.format.specs.declared.ChangeStatus.TheVariants.{Pending, Approved, NotApproved}
use Rattle.format.specs.declared.Region.{Region}
use Rattle.format.specs.declared.Region.TheVariants as regions
use Rattle.format.specs.Signed.{Sendable}
use Rattle.format.specs.Inverse.{GivenIf}
use Rattle.format.specs.Field.{range, U, S}
use Rattle.format.specs.Codec.{Codec, field, ◌then◌, when, iso}

-- f leaves each number up to `most` as it is
abbrev pub Keeps : (ℕ → ℕ) → ℕ → Type 0
Keeps f zero = f 0 ≡ 0
Keeps f (suc most) = Keeps f most × (f (suc most) ≡ suc most)

pub kept : (f : ℕ → ℕ) (most : ℕ) → Keeps f most → (v : ℕ) → v ≤ most → f v ≡ v
kept f zero h v l = let z : v ≡ 0 = omega arith in rw z h
kept f (suc most) h v l = go (dec_lt v (suc most)) (kept f most h.0 v)
  where
    go : Dec (v < suc most) → (v ≤ most → f v ≡ v) → f v ≡ v
    go (yes b) ih = ih (le_of_suc-le-suc b)
    go (no b) ih = let z : v ≡ suc most = omega arith in rw z h.1

-- U 0..most, as values that a function and its inverse on that range give
unfoldable pub enumeration :
    {A : Type 0} (most : ℕ) (of : ℕ → A) (number : A → ℕ) → ((a : A) → of (number a) ≡ a) → Keeps (λ v. number (of v)) most →
    Codec A
unfolding field range
enumeration most of number back keeps =
    iso (field (U 0 most)) of number (λ a h. back a) (λ v h. kept (λ w. number (of w)) most keeps v (le_of_suc-le-suc h.below))

-- status U 0..2
unfoldable pub status_of : ℕ → Status
status_of v = cond (eqb v 0) NotStarted (cond (eqb v 1) InProgress Completed)

unfoldable pub status_number : Status → ℕ
status_number NotStarted = 0
status_number InProgress = 1
status_number Completed = 2

pub status_back : (a : Status) → status_of (status_number a) ≡ a
unfolding status_of status_number
status_back NotStarted = refl
status_back InProgress = refl
status_back Completed = refl

unfoldable pub status : Codec Status
unfolding status_of status_number
status = enumeration 2 status_of status_number status_back ((refl, refl), refl)

-- forecast U 0..3
unfoldable pub forecast_of : ℕ → EtcTechnique
forecast_of v = cond (eqb v 0) Remaining (cond (eqb v 1) Planned (cond (eqb v 2) Cpi CpiSpi))

unfoldable pub forecast_number : EtcTechnique → ℕ
forecast_number Remaining = 0
forecast_number Planned = 1
forecast_number Cpi = 2
forecast_number CpiSpi = 3

pub forecast_back : (a : EtcTechnique) → forecast_of (forecast_number a) ≡ a
unfolding forecast_of forecast_number
forecast_back Remaining = refl
forecast_back Planned = refl
forecast_back Cpi = refl
forecast_back CpiSpi = refl

unfoldable pub forecast : Codec EtcTechnique
unfolding forecast_of forecast_number
forecast = enumeration 3 forecast_of forecast_number forecast_back (((refl, refl), refl), refl)

-- resource kind U 0..2
unfoldable pub resource_kind_of : ℕ → ResourceKind
resource_kind_of v = cond (eqb v 0) Labor (cond (eqb v 1) Nonlabor Material)

unfoldable pub resource_kind_number : ResourceKind → ℕ
resource_kind_number Labor = 0
resource_kind_number Nonlabor = 1
resource_kind_number Material = 2

pub resource_kind_back : (a : ResourceKind) → resource_kind_of (resource_kind_number a) ≡ a
unfolding resource_kind_of resource_kind_number
resource_kind_back Labor = refl
resource_kind_back Nonlabor = refl
resource_kind_back Material = refl

unfoldable pub resource_kind : Codec ResourceKind
unfolding resource_kind_of resource_kind_number
resource_kind = enumeration 2 resource_kind_of resource_kind_number resource_kind_back ((refl, refl), refl)

-- accrual U 0..2
unfoldable pub accrual_of : ℕ → Accrual
accrual_of v = cond (eqb v 0) Start (cond (eqb v 1) End Uniform)

unfoldable pub accrual_number : Accrual → ℕ
accrual_number Start = 0
accrual_number End = 1
accrual_number Uniform = 2

pub accrual_back : (a : Accrual) → accrual_of (accrual_number a) ≡ a
unfolding accrual_of accrual_number
accrual_back Start = refl
accrual_back End = refl
accrual_back Uniform = refl

unfoldable pub accrual : Codec Accrual
unfolding accrual_of accrual_number
accrual = enumeration 2 accrual_of accrual_number accrual_back ((refl, refl), refl)

-- status of a change U 0..2
unfoldable pub change_status_of : ℕ → ChangeStatus
change_status_of v = cond (eqb v 0) Pending (cond (eqb v 1) Approved NotApproved)

unfoldable pub change_status_number : ChangeStatus → ℕ
change_status_number Pending = 0
change_status_number Approved = 1
change_status_number NotApproved = 2

pub change_status_back : (a : ChangeStatus) → change_status_of (change_status_number a) ≡ a
unfolding change_status_of change_status_number
change_status_back Pending = refl
change_status_back Approved = refl
change_status_back NotApproved = refl

unfoldable pub change_status : Codec ChangeStatus
unfolding change_status_of change_status_number
change_status = enumeration 2 change_status_of change_status_number change_status_back ((refl, refl), refl)

-- region U: 0 none, 1 Brazil
unfoldable pub region_of : ℕ → Region
region_of v = cond (eqb v 0) regions.None regions.Brazil

unfoldable pub region_number : Region → ℕ
region_number regions.None = 0
region_number regions.Brazil = 1

pub region_back : (a : Region) → region_of (region_number a) ≡ a
unfolding region_of region_number
region_back regions.None = refl
region_back regions.Brazil = refl

unfoldable pub region : Codec Region
unfolding region_of region_number
region = enumeration 1 region_of region_number region_back (refl, refl)

-- U: 0 idle, 1 working
unfoldable pub working_of : ℕ → Bool
working_of v = cond (eqb v 0) false true

unfoldable pub working_number : Bool → ℕ
working_number false = 0
working_number true = 1

pub working_back : (a : Bool) → working_of (working_number a) ≡ a
unfolding working_of working_number
working_back false = refl
working_back true = refl

unfoldable pub working : Codec Bool
unfolding working_of working_number
working = enumeration 1 working_of working_number working_back (refl, refl)

-- technique U 0..5, after 5 an S share
unfoldable pub technique_of : ℕ → Option ℤ → EvTechnique
technique_of v None = cond (eqb v 0) Physical (cond (eqb v 1) Duration (cond (eqb v 2) Units (cond (eqb v 3) ZeroHundred FiftyFifty)))
technique_of v (Some share) = Custom share

unfoldable pub technique_parts : EvTechnique → ℕ × Option ℤ
technique_parts Physical = (0, None)
technique_parts Duration = (1, None)
technique_parts Units = (2, None)
technique_parts ZeroHundred = (3, None)
technique_parts FiftyFifty = (4, None)
technique_parts (Custom share) = (5, Some share)

pub technique_back : (a : EvTechnique) → technique_of (technique_parts a).0 (technique_parts a).1 ≡ a
unfolding technique_of technique_parts
technique_back Physical = refl
technique_back Duration = refl
technique_back Units = refl
technique_back ZeroHundred = refl
technique_back FiftyFifty = refl
technique_back (Custom share) = refl

technique_plain : (v : ℕ) → v < 5 → technique_parts (technique_of v None) ≡ (v, None)
unfolding technique_of technique_parts
technique_plain zero l = refl
technique_plain (suc zero) l = refl
technique_plain (suc (suc zero)) l = refl
technique_plain (suc (suc (suc zero))) l = refl
technique_plain (suc (suc (suc (suc zero)))) l = refl
technique_plain (suc (suc (suc (suc (suc v))))) l = absurd (omega arith)

pub technique_parts_lem :
    (v : ℕ) → v < 6 → (b : Bool) → eqb v 5 ≡ b → (o : Option ℤ) → GivenIf Sendable b o → technique_parts (technique_of v o) ≡ (v, o)
unfolding technique_of technique_parts
technique_parts_lem v l true e None h = absurd h
technique_parts_lem v l true e (Some z) h = ap (λ (n : ℕ). (n, Some z)) (sym (eqb-true v 5 e))
technique_parts_lem v l false e None h = technique_plain v (omega (arith, eqb-false v 5 e))
technique_parts_lem v l false e (Some z) h = absurd h

unfoldable pub technique : Codec EvTechnique
unfolding ◌then◌ field range when S
technique =
    iso (field (U 0 5) then (λ v. when (eqb v 5) (field S)))
    (λ v. technique_of v.0 v.1)
    technique_parts
    (λ t h. technique_back t)
    (λ v h. technique_parts_lem v.0 h.0.below (eqb v.0 5) refl v.1 h.1)
