-- The estimates and the indices, set one behind the other, are the row.
use Prim.Native.Nat.{ℕ}
use native.Mathlib.Omega.{arith}
use mathlib.Core.Path.{◌≡◌, refl, ◌∙◌}
use mathlib.Core.List.{List, ◌++◌}
use lib.ListN.{length, length-append}
use lib.Seq.{sets}
use Rattle.format.specs.declared.EtcTechnique.{EtcTechnique}
use Rattle.model.specs.declared.Earned.{Earned}
use Rattle.model.specs.declared.Indices.{Indices}
use Rattle.model.specs.Forecast.{indices_of}
use Rattle.rows.specs.Rows.{optional}
use Rattle.rows.proofs.Sets.{optional_two}
use Rattle.flat.proofs.Sets.{sets_on, sets_whole}
use Rattle.answers.specs.Rows.{estimates_row, index_bits, indices_row, forecast_row}

module _ (x : Indices) where
  abbrev b : List ℕ
  b = optional (index_bits x.has_cpi x.cpi)

  abbrev c : List ℕ
  c = optional (index_bits x.has_spi x.spi)

  abbrev d : List ℕ
  d = optional (index_bits x.has_tcpi x.tcpi)

  pub indices_put : (out : List ℕ) → sets (sets (sets out 3 b) 5 c) 7 d ≡ sets out 3 (indices_row x)
  unfolding indices_row
  indices_put out =
      sets_on (sets out 3 b) 5 c d 7 (omega (arith, optional_two (index_bits x.has_spi x.spi)))
      ∙ sets_on out 3 b (c ++ d) 5 (omega (arith, optional_two (index_bits x.has_cpi x.cpi)))

  pub six : length (indices_row x) ≡ 6
  unfolding indices_row
  six =
      omega (
        arith,
        length-append b (c ++ d),
        length-append c d,
        optional_two (index_bits x.has_cpi x.cpi),
        optional_two (index_bits x.has_spi x.spi),
        optional_two (index_bits x.has_tcpi x.tcpi),
      )

pub row_put :
    (technique : EtcTechnique) (e : Earned) (out : List ℕ) → length out ≡ 9 →
    sets (sets out 0 (estimates_row technique e)) 3 (indices_row (indices_of e)) ≡ forecast_row technique e
unfolding forecast_row estimates_row
row_put technique e out h =
    let a = estimates_row technique e in
    let r = indices_row (indices_of e) in
    sets_on out 0 a r 3 refl ∙ sets_whole (a ++ r) out (omega (arith, six (indices_of e)))
