-- The work that is left before a token is taken falls with each production.
use Rattle.vlog_grammar.proofs.Common.{◌≡◌, ℕ, ◌+◌, ◌<◌, ◌≤◌, Bool, true, false, ◌&&◌, cond, List, [], ◌∷◌, ◌++◌, Some, refl, sym, ap, subst, ◌∙◌, arith, ltb-true, Class, Kind, Rule, Symbol, Is}
use Rattle.vlog_grammar.proofs.Common.{Refused, Of, choice, kind_of, parts_of, is_null, rank_of, can_vanish, work_of}
use Rattle.vlog_grammar.proofs.Passes.{chosen, null_closed, work_falls}

work_append : (a b : List Symbol) → work_of (a ++ b) ≤ work_of a + cond (can_vanish a) (work_of b) 0
work_append [] b = omega arith
work_append (Is c ∷ a) b = omega arith
work_append (Refused c f ∷ a) b = omega arith
work_append (Of k ∷ a) b = go (is_null k) (can_vanish a) (rank_of k) (work_of a) (work_of (a ++ b)) (work_append a b)
  where
    go : (n v : Bool) (r w x : ℕ) → x ≤ w + cond v (work_of b) 0 → r + cond n x 0 ≤ (r + cond n w 0) + cond (n && v) (work_of b) 0
    go true true r w x h = omega arith
    go true false r w x h = omega arith
    go false true r w x h = omega arith
    go false false r w x h = omega arith

fits_in : (v n : Bool) (a w r : ℕ) → (v ≡ true → n ≡ true) → a < r → a + cond v w 0 < r + cond n w 0
fits_in true true a w r h l = omega arith
fits_in true false a w r h l = let wrong : false ≡ true = h refl in absurd cc
fits_in false true a w r h l = omega arith
fits_in false false a w r h l = omega arith

pub less_work : (g : Symbol) (gs : List Symbol) (k : Kind) (r : Rule) (y : Class) → g ≡ Of k → choice k y ≡ Some r → work_of (parts_of r ++ gs) < work_of (g ∷ gs)
less_work g gs k r y is_kind choose =
    let well = chosen k y r choose in
    let front : g ≡ Of (kind_of r) = is_kind ∙ ap Of (sym well.0) in
    let less = fits_in (can_vanish (parts_of r)) (is_null (kind_of r)) (work_of (parts_of r)) (work_of gs) (rank_of (kind_of r)) (null_closed r) (ltb-true _ _ (work_falls r)) in
    let all : work_of (parts_of r ++ gs) < work_of (Of (kind_of r) ∷ gs) = omega (arith, less, work_append (parts_of r) gs) in
    subst (λ (s : Symbol). work_of (parts_of r ++ gs) < work_of (s ∷ gs)) (sym front) all
