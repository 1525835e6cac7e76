-- Lemmas are true in every model of the clauses.
use Rattle.lrat_checker.proofs.Common.{◌≡◌, ℕ, suc, ◌<◌, Bool, true, false, not, cond, ◌||◌, List, [], ◌∷◌, ◌++◌, length, get_or, ℤ, pos, negsuc, Option, Some, None, option_map, refl, ap, sym, ◌∙◌}
use Rattle.lrat_checker.proofs.Common.{inl, inr, subst, eqb_tells, All-append, All-nil, All-cons, All-push, All-contains, Contains-push, slice_get-get_or, slice_get_within, variable, Values, value}
use Rattle.lrat_checker.proofs.Common.{Satisfies, IsModel, Known, none, with_value, with_true, with_false, is_positive, literal, is_some_false, left, IsUnit, clause_at, Propagates, FollowsBy}
use Rattle.lrat_checker.proofs.Common.{IsLegalAfter, IsLegalLog, EndsEmpty}
use Rattle.std.specs.List.{list_any}

-- each known value is the variable's
abbrev pub Agrees : Known → Values → Type 0
Agrees known values = (v : ℕ) (b : Bool) → known v ≡ Some b → values v ≡ b

none_agrees : (values : Values) → Agrees none values
none_agrees values v b h = let e : None ≡ Some b = h in cc

pub agrees-with : (known : Known) (values : Values) (v : ℕ) (b : Bool) → Agrees known values → values v ≡ b → Agrees (with_value known v b) values
agrees-with known values v b agrees is w d h = elim (eqb_tells w v) [
  | inl same ↦ (let e : Some b ≡ Some d = rw same.0 at h in let f : b ≡ d = cc in ap values same.1 ∙ is ∙ f)
  | inr other ↦ agrees w d (rw other.0 at h)
]

-- a false literal is false
pub agrees-false : (known : Known) (values : Values) (l : ℤ) → Agrees known values → is_some_false (literal known l) ≡ true → value values l ≡ false
agrees-false known values (pos n) agrees h = false_at (known n) (values n) (agrees n) h where
  false_at : (o : Option Bool) (b : Bool) → ((d : Bool) → o ≡ Some d → b ≡ d) → is_some_false o ≡ true → b ≡ false
  false_at None b f e = cc
  false_at (Some true) b f e = cc
  false_at (Some false) b f e = f false refl
agrees-false known values (negsuc n) agrees h = false_at (known (suc n)) (values (suc n)) (agrees (suc n)) h where
  false_at : (o : Option Bool) (b : Bool) → ((d : Bool) → o ≡ Some d → b ≡ d) → is_some_false (option_map not o) ≡ true → not b ≡ false
  false_at None b f e = cc
  false_at (Some true) b f e = ap not (f true refl)
  false_at (Some false) b f e = cc

-- the sign of a literal that is true, and of one that is false
value-sign : (values : Values) (l : ℤ) → value values l ≡ true → values (variable l) ≡ is_positive l
value-sign values (pos n) h = h
value-sign values (negsuc n) h = elim (values (suc n)) as (λ (b : Bool). not b ≡ true → b ≡ false) [ true ↦ λ e. sym e | false ↦ λ e. refl ] h

value-opposite : (values : Values) (l : ℤ) → value values l ≡ false → values (variable l) ≡ not (is_positive l)
value-opposite values (pos n) h = h
value-opposite values (negsuc n) h = elim (values (suc n)) as (λ (b : Bool). not b ≡ false → b ≡ true) [ true ↦ λ e. refl | false ↦ λ e. sym e ] h

or_false-left : (a b : Bool) → (a || b) ≡ false → a ≡ false
or_false-left true b h = h
or_false-left false b h = refl

or_false-right : (a b : Bool) → (a || b) ≡ false → b ≡ false
or_false-right true b h = cc
or_false-right false b h = h

-- where all literals are false in the values, the assignment that makes them false agrees
pub agrees-with_false : (known : Known) (values : Values) (lits : List ℤ) → Agrees known values → list_any (value values) lits ≡ false → Agrees (with_false known lits) values
agrees-with_false known values [] agrees h = agrees
agrees-with_false known values (l ∷ more) agrees h =
    agrees-with_false (with_value known (variable l) (not (is_positive l))) values more
    (agrees-with known values (variable l) (not (is_positive l)) agrees (value-opposite values l (or_false-left (value values l) (list_any (value values) more) h)))
    (or_false-right (value values l) (list_any (value values) more) h)

-- some literal that is left is true
pub left-true : (known : Known) (values : Values) (clause : List ℤ) → Agrees known values → Satisfies values clause → Satisfies values (left known clause)
left-true known values [] agrees h = h
left-true known values (l ∷ more) agrees h =
    let P : Bool → Type 0 = λ b. is_some_false (literal known l) ≡ b → Satisfies values (cond (not b) (l ∷ left known more) (left known more)) in
    elim (is_some_false (literal known l)) as P [
      | true ↦ λ e. left-true known values more agrees (rw (agrees-false known values l agrees e) at h)
      | false ↦ λ e. elim (value values l) as (λ (b : Bool). (b || list_any (value values) more) ≡ true → (b || list_any (value values) (left known more)) ≡ true) [ true ↦ λ _. refl | false ↦ λ later. left-true known values more agrees later ] h
    ] refl

or-nothing : (b : Bool) → (b || false) ≡ true → b ≡ true
or-nothing true h = refl
or-nothing false h = h

pub unit-agrees : (known : Known) (values : Values) (clause : List ℤ) (l : ℤ) → Agrees known values → Satisfies values clause → IsUnit known clause l → Agrees (with_true known l) values
unit-agrees known values clause l agrees is unit =
    let alone : (value values l || false) ≡ true = rw unit.alone at (left-true known values clause agrees is) in
    agrees-with known values (variable l) (is_positive l) agrees (value-sign values l (or-nothing (value values l) alone))

-- a clause of the list is true in a model
pub model-at : (values : Values) (clauses : List (List ℤ)) (hint : ℕ) (clause : List ℤ) → IsModel values clauses → clause_at clauses hint ≡ Some clause → Satisfies values clause
model-at values clauses Rattle.std.proofs.Common.zero clause model at = cc
model-at values clauses (suc k) clause model at =
    let within : k < length clauses = slice_get_within clauses k clause at in
    let got : Some (get_or clauses k []) ≡ Some clause = sym (slice_get-get_or clauses k [] within) ∙ at in
    let same : get_or clauses k [] ≡ clause = cc in
    let P : List ℤ → Type 0 = Satisfies values in
    subst P same (model k [] within)

pub propagates-agree : (values : Values) (clauses : List (List ℤ)) (start : Known) (hints : List ℕ) (end : Known) → IsModel values clauses → Agrees start values → Propagates clauses start hints end → Agrees end values
propagates-agree values clauses start [] end model agrees same = let P : Known → Type 0 = λ k. Agrees k values in subst P same agrees
propagates-agree values clauses start (hint ∷ more) end model agrees (clause, l, at, unit, rest) =
    propagates-agree values clauses (with_true start l) more end model (unit-agrees start values clause l agrees (model-at values clauses hint clause model at) unit) rest

-- a lemma that follows is true in every model
pub follows-true : (values : Values) (clauses : List (List ℤ)) (lemma : List ℤ) (hints : List ℕ) → IsModel values clauses → FollowsBy clauses lemma hints → Satisfies values lemma
follows-true values clauses lemma hints model ends =
    let P : Bool → Type 0 = λ b. list_any (value values) lemma ≡ b → b ≡ true in
    elim (list_any (value values) lemma) as P [
      | true ↦ λ e. refl
      | false ↦ λ e.
          let agrees : Agrees ends.known values = propagates-agree values clauses (with_false none lemma) ends.before ends.known model (agrees-with_false none values lemma (none_agrees values) e) ends.propagates in
          let wrong : false ≡ true = rw ends.falsified at (left-true ends.known values ends.clause agrees (model-at values clauses ends.last ends.clause model ends.there)) in
          wrong
    ] refl

-- every lemma of a legal log is true in every model of the clauses
pub legal-true : (values : Values) (clauses : List (List ℤ)) (free : ℕ) (earlier lemmas : List (List ℤ)) → IsModel values clauses → IsModel values earlier → IsLegalAfter clauses free earlier lemmas → IsModel values lemmas
legal-true values clauses free earlier [] model before legal = All-nil (Satisfies values)
legal-true values clauses free earlier (lemma ∷ more) model before legal =
    let here : Satisfies values lemma = follows-true values (clauses ++ earlier) lemma legal.0.0 (All-append (Satisfies values) clauses earlier model before) legal.0.1.follows in
    All-cons (Satisfies values) lemma more here (legal-true values clauses free (earlier ++ lemma ∷ []) more model (All-push (Satisfies values) earlier lemma before here) legal.1)

pub log-true : (values : Values) (clauses : List (List ℤ)) (free : ℕ) (lemmas : List (List ℤ)) → IsLegalLog clauses free lemmas → IsModel values clauses → IsModel values lemmas
log-true values clauses free lemmas legal model = legal-true values clauses free [] lemmas model (All-nil (Satisfies values)) legal

-- where the last lemma is empty the clauses have no model
pub refuted-no_model : (values : Values) (clauses : List (List ℤ)) (free : ℕ) (lemmas : List (List ℤ)) → IsLegalLog clauses free lemmas → EndsEmpty lemmas → IsModel values clauses → ⊥
refuted-no_model values clauses free lemmas legal ends model =
    let all : IsModel values (ends.0 ++ [] ∷ []) = rw ends.1 at (log-true values clauses free lemmas legal model) in
    let last : Satisfies values [] = All-contains (Satisfies values) (ends.0 ++ [] ∷ []) [] all (Contains-push ends.0 []) in
    let wrong : false ≡ true = last in
    cc
