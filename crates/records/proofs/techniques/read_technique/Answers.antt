-- `read_technique` meets its contract: after 5 its share, else its number alone.
use borrow.Author.Tests.{eq-eqb, ne_eqb}
use Rattle.format.specs.Reader.{both, mapped, given}
use Rattle.format.specs.Codec.{iso}
use Rattle.format.specs.Enumeration.{technique, technique_of}
use Rattle.fields.proofs.Signed.{kept}
use Rattle.records.proofs.techniques.read_technique.Goals as goal

pub returns-then-number-eq5 : goal.returns-then-number-eq5
unfolding technique technique_of iso mapped both given
returns-then-number-eq5 c =
    let share = kept c.amount-share.result.value c.struct_told-1.given.0.1 in
    rw (share, ← c.field-number.ensures, eq-eqb _ _ c.if-number-eq5.true, ← c.amount-share.ensures)

pub returns : goal.returns
unfolding technique technique_of iso mapped both given
returns c = rw (c.technique_of.ensures, ← c.field-number.ensures, ne_eqb _ _ c.if-number-eq5.false)
