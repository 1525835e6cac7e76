-- The list of the variables that have a value.
use Rattle.lrat_checker.proofs.Common.{◌≡◌, ◌≢◌, ℕ, ◌<◌, Bool, List, [], ◌∷◌, ◌++◌, length, get_or, set, replicate, Option, Some, None, refl, sym, ◌∙◌, inl, inr, arith, Contains, get_or-set_other}
use Rattle.lrat_checker.proofs.Common.{length-set, length-replicate, get_or-replicate, ext_get_or, Contains-append_left, Contains-push, All-push, eqb_tells, AreListed}

-- one more variable gets a value
pub listed-push : (table : List (Option Bool)) (assigned : List ℕ) (v : ℕ) (b : Bool) → AreListed table assigned → v < length table → AreListed (set table v (Some b)) (assigned ++ v ∷ [])
listed-push table assigned v b are h = record {
  listed = λ w has. elim (eqb_tells w v) [
    | inl same ↦ rw same.1 (Contains-push assigned v)
    | inr other ↦ Contains-append_left assigned (v ∷ []) w (are.listed w (λ e. has (get_or-set_other table v w (Some b) None other.1 ∙ e)))
  ];
  named = rw (length-set table v (Some b)) (All-push (λ w. w < length table) assigned v are.named h);
}

-- a value that isn't there
is_none : (o : Option Bool) → (o ≢ None → ⊥) → o ≡ None
is_none None h = refl
is_none (Some b) h = absurd (h (λ e. cc))

-- with an empty list all variables are open
pub listed-none : (table : List (Option Bool)) → AreListed table [] → table ≡ replicate (length table) None
listed-none table are =
    ext_get_or None table (replicate (length table) None) (sym (length-replicate (length table) None))
    (λ i h. is_none (get_or table i None) (λ has. let at : Contains [] i = are.listed i has in let no : at.0 < 0 = at.1 in absurd (omega arith)) ∙ sym (get_or-replicate (length table) i None None h))
