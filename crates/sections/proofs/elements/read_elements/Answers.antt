-- `read_elements` meets its contract: the count, then as many elements.
use native.Mathlib.Numerals.{add-one}
use Rattle.sections.proofs.elements.read_elements.Goals as goal

pub returns : goal.returns
returns c = record { lead = rw add-one at c.field-lead.ensures; rest = c.skip_all.ensures }
