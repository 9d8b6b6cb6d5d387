-- `optional_amount` meets its contract: after its mark, nothing or its value.
use Rattle.format.specs.Reader.{here}
use Rattle.format.specs.Field.{S}
use Rattle.format.specs.Codec.{field}
use Rattle.fields.proofs.Marks.{absent, present}
use Rattle.fields.proofs.Signed.{kept}
use Rattle.fields.proofs.kinds.optional_amount.Goals as goal

pub returns-then-mark-eq0 : goal.returns-then-mark-eq0
returns-then-mark-eq0 c = absent _ _ _ c.field-mark.ensures c.if-mark-eq0.true

pub returns : goal.returns
unfolding field here S
returns c =
    rw (kept c.amount-value.result.value c.struct_told-1.given.0.1)
    (present _ _ _ c.field-mark.ensures c.if-mark-eq0.false c.amount-value.ensures)
