-- The budget of one account, looked for, and its changes, added up.
use Prim.Native.Nat.{ℕ, ◌+◌}
use mathlib.Core.Path.{◌≡◌, refl, sym, ap, ◌∙◌}
use mathlib.Core.Bool.{Bool, true, false}
use mathlib.Core.List.{List, [], ◌∷◌}
use lib.ListN.{get_or, drop}
use Rattle.format.specs.Book.{Budget}
use Rattle.format.specs.Format.{names}
use Rattle.lists.specs.Lists.{cons_if, keep}
use Rattle.model.specs.Budgets.{Account, no_budget}

abbrev held_by : Account → Budget → Bool
held_by o b = names b.activity o

-- none of the first i is its budget
pub record Seeking (o : Account) (bs : List Budget) (i : ℕ) : Type 0 where
  pub rest : keep (held_by o) (drop i bs) ≡ keep (held_by o) bs

pub seeking_none : (o : Account) (bs : List Budget) → Seeking o bs 0
seeking_none o bs = record { rest = refl }

module _ {o : Account} {bs : List Budget} {i : ℕ} (w : Seeking o bs i) where
  module _ {b : Budget} (e : drop i bs ≡ b ∷ drop (i + 1) bs) where
    ahead : {t : Bool} → held_by o b ≡ t → keep (held_by o) bs ≡ cons_if t b (keep (held_by o) (drop (i + 1) bs))
    unfolding keep
    ahead h = sym w.rest ∙ ap (keep (held_by o)) e ∙ ap (λ (t : Bool). cons_if t b (keep (held_by o) (drop (i + 1) bs))) h

    pub seeking_more : held_by o b ≡ false → Seeking o bs (i + 1)
    seeking_more h = record { rest = sym (ahead h) }

    pub seeking_found : held_by o b ≡ true → get_or (keep (held_by o) bs) 0 (no_budget o) ≡ b
    seeking_found h = ap (λ (xs : List Budget). get_or xs 0 (no_budget o)) (ahead h)

  pub seeking_end : drop i bs ≡ [] → get_or (keep (held_by o) bs) 0 (no_budget o) ≡ no_budget o
  unfolding keep
  seeking_end e = ap (λ (xs : List Budget). get_or xs 0 (no_budget o)) (sym w.rest ∙ ap (keep (held_by o)) e)
