-- Dropping nodes from the end of a list.
use Rattle.net_order.proofs.Common.{◌≡◌, ℕ, Bool, true, List, [], ◌∷◌, ◌++◌, ◌⊎◌, inl, inr, sym, ◌∙◌, ap, Contains, Contains-push_cases, is_listed}

-- a listed node at the end may be dropped
pub drop-last : (listed : List Bool) (xs : List ℕ) (x d : ℕ) → is_listed listed x ≡ true → Contains (xs ++ x ∷ []) d → (is_listed listed d ≡ true) ⊎ Contains xs d
drop-last listed xs x d is has = elim (Contains-push_cases xs x d has) [ inl old ↦ inr old | inr same ↦ inl (ap (is_listed listed) (sym same) ∙ is) ]
