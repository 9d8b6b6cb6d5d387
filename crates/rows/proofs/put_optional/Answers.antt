-- `put_optional` meets its contract: by what is given.
use mathlib.Core.Path.{refl}
use native.Mathlib.Numerals.{add-one}
use Rattle.rows.specs.Rows.{optional}
use Rattle.rows.proofs.put_optional.Goals as goal

pub returns-in-None : goal.returns-in-None
unfolding optional
returns-in-None c = rw (c.in-None.is, add-one c.args.at) refl

pub returns-in-Some : goal.returns-in-Some
unfolding optional
returns-in-Some c = rw (c.in-Some.is, add-one c.args.at) refl
