-- What the laws of reading and writing ask of the rules that refuse. proofs/Sound.antt shows that the rules are so.
use Rattle.std.specs.Prelude.{ℕ, suc, ◌*◌, ◌^◌, ◌<◌, ◌≤◌, ◌≡◌, Bool, false, Err}
use Rattle.format.specs.Number.{wrong_group}
use Rattle.format.specs.Reader.{tested}
use Rattle.format.specs.declared.Refusal.{Refusal}
use Rattle.format.specs.declared.Reason.{Reason}

-- tenth: a tenth byte is 0 or 1; last: each last group that is written may stand; refused: a test leaves what is refused as it is
pub record Sound : Type 1 where
  pub tenth : (b : ℕ) → wrong_group 1 b ≡ false → b ≤ 1
  pub last : (k n : ℕ) → n < 2 * 128 ^ k → n < 128 → (k < 9 → 0 < n) → wrong_group (suc k) n ≡ false
  pub refused : {A : Type 0} (d : A) (reason : Reason) (place : ℕ) (t : Bool) (a : A) (e : Refusal) → tested d reason place t (a, Err e) ≡ (a, Err e)
