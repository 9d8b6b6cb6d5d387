-- `put_line` meets its contract: the level, then the index behind it.
use native.Mathlib.Numerals.{add-one}
use mathlib.Core.Path.{refl}
use Rattle.descent.proofs.put_line.Goals as goal

pub returns : goal.returns
returns c = rw (add-one _) refl
