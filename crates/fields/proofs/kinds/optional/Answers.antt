-- `optional` meets its contract: after its mark, nothing or its value.
use Rattle.format.specs.Reader.{place_of}
use Rattle.format.specs.Field.{range}
use Rattle.fields.proofs.Marks.{absent, present}
use Rattle.fields.proofs.kinds.optional.Goals as goal

pub returns-then-mark-eq0 : goal.returns-then-mark-eq0
returns-then-mark-eq0 c = absent _ _ _ c.field-mark.ensures c.if-mark-eq0.true

pub returns : goal.returns
unfolding range place_of
returns c = present _ _ _ c.field-mark.ensures c.if-mark-eq0.false c.ranged-value.ensures
