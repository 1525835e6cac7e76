-- The steps of the loop that puts productions in the place of kinds.
use Rattle.vlog_grammar.proofs.Common.{◌≡◌, ◌<◌, List, [], ◌∷◌, ◌++◌, true, Some, reverse, refl, sym, ap, subst, ◌∙◌, append_assoc, append-nil, reverse-append, Step, Begin, Class, Kind, Rule, Symbol}
use Rattle.vlog_grammar.proofs.Common.{Of, choice, parts_of, work_of, all_safe, rest_of, AllFollowed, Expands, ExpandsTo}
use Rattle.vlog_grammar.proofs.Passes.{and_right}
use Rattle.vlog_grammar.proofs.Expand.{expands_none, expands_more}
use Rattle.vlog_grammar.proofs.Work.{less_work}

pub popped : (xs ys : List Symbol) (g : Symbol) → xs ≡ ys ++ g ∷ [] → reverse xs ≡ g ∷ reverse ys
popped xs ys g e = ap reverse e ∙ reverse-append ys (g ∷ [])

rest_safe : (ss : List Symbol) → all_safe ss ≡ true → all_safe (rest_of ss) ≡ true
rest_safe [] h = refl
rest_safe (s ∷ ss) h = and_right _ _ h

pub expands_start : (y : Class) (gs : List Symbol) (steps : List Step) → AllFollowed gs → all_safe gs ≡ true → ExpandsTo y gs gs steps steps
expands_start y gs steps followed safe = record {
  added = [];
  are = sym (append-nil steps);
  expands = expands_none y gs followed (rest_safe gs safe);
}

pub expand_more : (y : Class) (old xs ys zs : List Symbol) (g : Symbol) (k : Kind) (r : Rule) (s0 s1 s2 : List Step) → xs ≡ ys ++ g ∷ [] → g ≡ Of k → choice k y ≡ Some r → reverse zs ≡ parts_of r ++ reverse ys → s2 ≡ s1 ++ Begin r ∷ [] → ExpandsTo y old (reverse xs) s0 s1 → ExpandsTo y old (reverse zs) s0 s2
expand_more y old xs ys zs g k r s0 s1 s2 pop is_kind choose push step so_far =
    let e = subst (λ (gs : List Symbol). Expands y old gs so_far.added) (popped xs ys g pop) so_far.expands in
    let more = expands_more y old (reverse ys) g so_far.added k r e is_kind choose in
    record {
      added = so_far.added ++ Begin r ∷ [];
      are = step ∙ ap (λ (ss : List Step). ss ++ Begin r ∷ []) so_far.are ∙ append_assoc s0 so_far.added (Begin r ∷ []);
      expands = subst (λ (gs : List Symbol). Expands y old gs (so_far.added ++ Begin r ∷ [])) (sym push) more;
    }

pub work_less : (y : Class) (xs ys zs : List Symbol) (g : Symbol) (k : Kind) (r : Rule) → xs ≡ ys ++ g ∷ [] → g ≡ Of k → choice k y ≡ Some r → reverse zs ≡ parts_of r ++ reverse ys → work_of (reverse zs) < work_of (reverse xs)
work_less y xs ys zs g k r pop is_kind choose push =
    subst (λ (gs : List Symbol). work_of gs < work_of (reverse xs)) (sym push)
    (subst (λ (gs : List Symbol). work_of (parts_of r ++ reverse ys) < work_of gs) (sym (popped xs ys g pop)) (less_work g (reverse ys) k r y is_kind choose))
