-- `read_exception` meets its contract: each call reads its field.
use Rattle.std.specs.Prelude.{cond}
use mathlib.Core.Path.{◌≡◌, refl}
use mathlib.Core.Bool.{Bool, true, false, not}
use Rattle.format.specs.Codec.{◌&◌}
use Rattle.format.specs.Enumeration.{working, working_of}
use Rattle.format.specs.Format.{exception}
use Rattle.records.specs.Decoded.{exception_of}
use Rattle.records.proofs.Parts.{both_read, iso_read, enum_read}
use Rattle.records.proofs.calendars.read_exception.Goals as goal

not_idle : (idle : Bool) → not idle ≡ cond idle false true
not_idle false = refl
not_idle true = refl

pub returns : goal.returns
unfolding exception_of exception working working_of ◌&◌
returns c =
    iso_read _ _ _ _ _ _ _
    (both_read _ _ _ _ c.rising-day.ensures
    (enum_read _ _ _ _ _ _ _ c.field-working.ensures (not_idle _)))
