-- The walk down a trail, step by step.
use Rattle.sat_solver.proofs.Common.{◌≡◌, ◌≢◌, ℕ, zero, suc, ◌+◌, ◌<◌, ◌≤◌, Bool, true, false, not, cond, ◌||◌, List, [], ◌∷◌, ◌++◌, length, take, get_or, reverse, ℤ, pos, negsuc, Option, Some, None}
use Rattle.sat_solver.proofs.Common.{option_map, refl, ap, sym, ◌∙◌, inl, inr, subst, if◌then◌else◌, arith, All, eqb_tells, leb_tells, take_all, reverse-append, All-head, All-tail, variable, Known}
use Rattle.sat_solver.proofs.Common.{none, with_value, with_true, with_false, is_positive, literal, is_some_false, left, IsUnit, IsFalsified, clause_at, EndsInConflict, is_named, IsFalse}
use Rattle.sat_solver.proofs.Common.{literal-same, with_false-other, assigned, literal_at, AreApart, is_needed, Serves, Derive, named-push}
use Rattle.sat_solver.proofs.Walks.{assigned-at, places-apart, place-of, with_true-same, with_true-other}
use Rattle.sat_solver.proofs.Choosing.{is-open}

-- what is left of a clause hangs on which of its literals are false alone
pub left-same : (known other : Known) (clause : List ℤ) → All (λ l. is_some_false (literal known l) ≡ is_some_false (literal other l)) clause → left known clause ≡ left other clause
left-same known other [] same = refl
left-same known other (l ∷ more) same =
    let P : ℤ → Type 0 = λ m. is_some_false (literal known m) ≡ is_some_false (literal other m) in
    let here : is_some_false (literal known l) ≡ is_some_false (literal other l) = All-head P l more same in
    rw (here, left-same known other more (All-tail P l more same)) refl

-- one more hint in front
pub conflict-cons : (clauses : List (List ℤ)) (known : Known) (hint : ℕ) (clause : List ℤ) (l : ℤ) (hints : List ℕ) → clause_at clauses hint ≡ Some clause → IsUnit known clause l → EndsInConflict clauses (with_true known l) hints → EndsInConflict clauses known (hint ∷ hints)
conflict-cons clauses known hint clause l hints at unit ends = record {
  before = hint ∷ ends.before;
  last = ends.last;
  hinted = ap (λ (hs : List ℕ). hint ∷ hs) ends.hinted;
  known = ends.known;
  propagates = (clause, l, at, unit, ends.propagates);
  clause = ends.clause;
  there = ends.there;
  falsified = ends.falsified;
}

-- a literal's value, from its variable's
pub literal-from : (known : Known) (l : ℤ) (b : Bool) → known (variable l) ≡ Some b → literal known l ≡ Some (if is_positive l then b else not b)
literal-from known (pos n) b e = e
literal-from known (negsuc n) b e = ap (option_map not) e

-- where a literal has a value, its variable has one
pub false-variable : (known : Known) (l : ℤ) → is_some_false (literal known l) ≡ true → known (variable l) ≡ Some (not (is_positive l))
false-variable known (pos n) h = false_at (known n) h where
  false_at : (o : Option Bool) → is_some_false o ≡ true → o ≡ Some false
  false_at None e = cc
  false_at (Some true) e = cc
  false_at (Some false) e = refl
false-variable known (negsuc n) h = true_at (known (suc n)) h where
  true_at : (o : Option Bool) → is_some_false (option_map not o) ≡ true → o ≡ Some true
  true_at None e = cc
  true_at (Some true) e = refl
  true_at (Some false) e = cc

-- a place that isn't needed is passed over
pub derive-skip : (clauses : List (List ℤ)) (literals : List ℤ) (needed : List Bool) (lemma : List ℤ) (q : ℕ) (used : List ℕ) → is_needed needed (variable (literal_at literals q)) ≡ false → Derive clauses literals needed lemma (q + 1) used → Derive clauses literals needed lemma q used
derive-skip clauses literals needed lemma q used skip derive = λ known serves. derive known (record {
  only = serves.only;
  needs = λ r h is. elim (eqb_tells r q) [
    | inl same ↦ absurd (let wrong : true ≡ false = sym is ∙ ap (λ (k : ℕ). is_needed needed (variable (literal_at literals k))) same.1 ∙ skip in cc)
    | inr other ↦ serves.needs r (omega (arith, h, other.1)) is
  ];
  lemma_false = serves.lemma_false;
  open_ = λ r h k unnamed. serves.open_ r (omega (arith, h)) k unnamed;
})

named-last : (xs : List ℤ) (l : ℤ) (v : ℕ) → v ≡ variable l → is_named (xs ++ l ∷ []) v ≡ true
named-last xs l v e = named-push xs l v ∙ elim (eqb_tells v (variable l)) [ inl same ↦ rw same.0 (or-true (is_named xs v)) | inr other ↦ absurd (other.1 e) ] where
  or-true : (b : Bool) → (b || (true || false)) ≡ true
  or-true true = refl
  or-true false = refl

pub unnamed-push : (xs : List ℤ) (l : ℤ) (v : ℕ) → v ≢ variable l → is_named xs v ≡ false → is_named (xs ++ l ∷ []) v ≡ false
unnamed-push xs l v h e = named-push xs l v ∙ elim (eqb_tells v (variable l)) [ inl same ↦ absurd (h same.1) | inr other ↦ rw (other.0, e) refl ]

-- the value of the variable at a place of the trail
pub assigned-whole : (limit : ℕ) (literals : List ℤ) (p : ℕ) → AreApart limit literals → p < length literals → assigned literals (variable (literal_at literals p)) ≡ Some (is_positive (literal_at literals p))
assigned-whole limit literals p apart h = rw (take_all (length literals) literals (omega arith)) at (assigned-at limit literals p (length literals) apart h (omega arith))

-- a needed place is left in the lemma
pub derive-stop : (clauses : List (List ℤ)) (limit : ℕ) (literals : List ℤ) (needed : List Bool) (lemma : List ℤ) (q : ℕ) (l : ℤ) (used : List ℕ) → AreApart limit literals → q < length literals → variable (literal_at literals q) ≡ variable l → Derive clauses literals needed lemma (q + 1) used → Derive clauses literals needed (lemma ++ l ∷ []) q used
derive-stop clauses limit literals needed lemma q l used apart h same derive = λ known serves.
    let here : known (variable (literal_at literals q)) ≡ Some (is_positive (literal_at literals q)) =
    serves.lemma_false (variable (literal_at literals q)) (named-last lemma l (variable (literal_at literals q)) same) ∙ assigned-whole limit literals q apart h in
    derive known (record {
      only = serves.only;
      needs = λ r k is. elim (eqb_tells r q) [
        | inl e ↦ (let P : ℕ → Type 0 = λ m. known (variable (literal_at literals m)) ≡ Some (is_positive (literal_at literals m)) in subst P (sym e.1) here)
        | inr other ↦ serves.needs r (omega (arith, k, other.1)) is
      ];
      lemma_false = λ v named. serves.lemma_false v (named-push lemma l v ∙ rw named refl);
      open_ = λ r k within unnamed. serves.open_ r (omega (arith, k)) within
          (unnamed-push lemma l (variable (literal_at literals r)) (λ e. places-apart limit literals q r apart (omega (arith, k)) within (same ∙ sym e)) unnamed);
    })

-- the literals of a clause of which nothing is left are false
pub left_none : (known : Known) (clause : List ℤ) (k : ℕ) (d : ℤ) → left known clause ≡ [] → k < length clause → is_some_false (literal known (get_or clause k d)) ≡ true
left_none known [] k d none_ h = absurd (omega (arith, h))
left_none known (x ∷ xs) k d none_ h = at_head (is_some_false (literal known x)) refl none_ (λ rest j within. left_none known xs j d rest within) k h where
  at_head : (b : Bool) → is_some_false (literal known x) ≡ b → cond (not b) (x ∷ left known xs) (left known xs) ≡ [] → (left known xs ≡ [] → (j : ℕ) → j < length xs → is_some_false (literal known (get_or xs j d)) ≡ true) → (k : ℕ) → k < length (x ∷ xs) → is_some_false (literal known (get_or (x ∷ xs) k d)) ≡ true
  at_head true e rest later zero h = e
  at_head true e rest later (suc k) h = later rest k (omega (arith, h))
  at_head false e rest later k h = cc

-- the one literal that is left is the one that isn't false
pub left_one : (known : Known) (clause : List ℤ) (l : ℤ) (k : ℕ) (d : ℤ) → left known clause ≡ l ∷ [] → k < length clause → is_some_false (literal known (get_or clause k d)) ≡ false → get_or clause k d ≡ l
left_one known [] l k d one h is = absurd (omega (arith, h))
left_one known (x ∷ xs) l k d one h is = at_head (is_some_false (literal known x)) refl one (λ rest j within not_false. left_one known xs l j d rest within not_false) k h is where
  at_head : (b : Bool) → is_some_false (literal known x) ≡ b → cond (not b) (x ∷ left known xs) (left known xs) ≡ l ∷ [] → (left known xs ≡ l ∷ [] → (j : ℕ) → j < length xs → is_some_false (literal known (get_or xs j d)) ≡ false → get_or xs j d ≡ l) → (k : ℕ) → k < length (x ∷ xs) → is_some_false (literal known (get_or (x ∷ xs) k d)) ≡ false → get_or (x ∷ xs) k d ≡ l
  at_head true e rest later zero h is = absurd (let wrong : true ≡ false = sym e ∙ is in cc)
  at_head true e rest later (suc k) h is = later rest k (omega (arith, h)) is
  at_head false e rest later zero h is = cc
  at_head false e rest later (suc k) h is =
      let none_ : left known xs ≡ [] = cc in
      absurd (let wrong : true ≡ false = sym (left_none known xs k d none_ (omega (arith, h))) ∙ is in cc)

-- two places of a trail have two variables
pub places-differ : (limit : ℕ) (literals : List ℤ) (p q : ℕ) → AreApart limit literals → p < length literals → q < length literals → p ≢ q → variable (literal_at literals p) ≢ variable (literal_at literals q)
places-differ limit literals p q apart h k ne e = elim (leb_tells p q) [
  | inl less ↦ places-apart limit literals p q apart (omega (arith, less.1, ne)) k e
  | inr more ↦ places-apart limit literals q p apart more.1 h (sym e)
]

-- what a needed variable that is false before place q is worth
pub needed-same : (limit : ℕ) (literals : List ℤ) (needed : List Bool) (lemma : List ℤ) (p q : ℕ) (m : ℤ) (known : Known) → q ≤ p → q ≤ length literals → is_needed needed (variable m) ≡ true → Serves literals needed lemma p known → is_some_false (literal (assigned (take q literals)) m) ≡ true → is_some_false (literal known m) ≡ true
needed-same limit literals needed lemma p q m known below h need serves false_ =
    let value : assigned (take q literals) (variable m) ≡ Some (not (is_positive m)) = false-variable (assigned (take q literals)) m false_ in
    let place = place-of literals q (variable m) (not (is_positive m)) h value in
    let there : known (variable (literal_at literals place.0)) ≡ Some (is_positive (literal_at literals place.0)) = serves.needs place.0 (omega (arith, place.1, below)) (ap (is_needed needed) place.2 ∙ need) in
    let here : known (variable m) ≡ assigned (take q literals) (variable m) = ap known (sym place.2) ∙ there ∙ ap Some place.3 ∙ sym value in
    ap is_some_false (literal-same known (assigned (take q literals)) m here) ∙ false_

-- a reason whose other literals are needed is unit in each assignment that serves
pub reason-unit : (limit : ℕ) (literals : List ℤ) (needed : List Bool) (lemma : List ℤ) (q : ℕ) (clause : List ℤ) (known : Known) → AreApart limit literals → q < length literals → IsUnit (assigned (take q literals)) clause (literal_at literals q) → All (λ m. is_needed needed (variable m) ≡ true) clause → is_named lemma (variable (literal_at literals q)) ≡ false → Serves literals needed lemma q known → IsUnit known clause (literal_at literals q)
reason-unit limit literals needed lemma q clause known apart h unit all unnamed serves =
    let own : known (variable (literal_at literals q)) ≡ None = serves.open_ q (omega arith) h unnamed in
    let l : ℤ = literal_at literals q in
    let one : (k : ℕ) (d : ℤ) → k < length clause → (b : Bool) → is_some_false (literal (assigned (take q literals)) (get_or clause k d)) ≡ b → is_some_false (literal known (get_or clause k d)) ≡ b = λ k d within b. elim b as (λ (b : Bool). is_some_false (literal (assigned (take q literals)) (get_or clause k d)) ≡ b → is_some_false (literal known (get_or clause k d)) ≡ b) [
      | true ↦ λ e. needed-same limit literals needed lemma q q (get_or clause k d) known (omega arith) (omega (arith, h)) (all k d within) serves e
      | false ↦ λ e. rw (left_one (assigned (take q literals)) clause l k d unit.alone within e, is-open known l own) refl
    ] in
    let same : All (λ l. is_some_false (literal known l) ≡ is_some_false (literal (assigned (take q literals)) l)) clause = λ k d within. one k d within (is_some_false (literal (assigned (take q literals)) (get_or clause k d))) refl in
    record { alone = left-same known (assigned (take q literals)) clause same ∙ unit.alone; open_ = is-open known (literal_at literals q) own }

-- a needed place is replaced by its reason
pub derive-expand : (clauses : List (List ℤ)) (limit : ℕ) (literals : List ℤ) (needed more : List Bool) (lemma : List ℤ) (q reason : ℕ) (clause : List ℤ) (used : List ℕ) → AreApart limit literals → q < length literals → clause_at clauses reason ≡ Some clause → IsUnit (assigned (take q literals)) clause (literal_at literals q) → ((v : ℕ) → is_needed needed v ≡ true → is_needed more v ≡ true) → All (λ m. is_needed more (variable m) ≡ true) clause → is_named lemma (variable (literal_at literals q)) ≡ false → Derive clauses literals needed lemma (q + 1) used → Derive clauses literals more lemma q (used ++ reason ∷ [])
derive-expand clauses limit literals needed more lemma q reason clause used apart h at unit grows all unnamed derive = λ known serves.
    let l : ℤ = literal_at literals q in
    let is : IsUnit known clause l = reason-unit limit literals more lemma q clause known apart h unit all unnamed serves in
    let other : (r : ℕ) → r < length literals → r ≢ q → with_true known l (variable (literal_at literals r)) ≡ known (variable (literal_at literals r)) = λ r within ne. with_true-other known l (variable (literal_at literals r)) (places-differ limit literals r q apart within h ne) in
    rw (reverse-append used (reason ∷ [])) (conflict-cons clauses known reason clause l (reverse used) at is (derive (with_true known l) (record {
      only = λ v b has. elim (eqb_tells v (variable l)) [
        | inl e ↦ (let value : Some (is_positive l) ≡ Some b = sym (with_true-same known l) ∙ ap (with_true known l) (sym e.1) ∙ has in ap (assigned literals) e.1 ∙ assigned-whole limit literals q apart h ∙ value)
        | inr o ↦ serves.only v b (sym (with_true-other known l v o.1) ∙ has)
      ];
      needs = λ r k need. elim (eqb_tells r q) [
        | inl e ↦ (let P : ℕ → Type 0 = λ m. with_true known l (variable (literal_at literals m)) ≡ Some (is_positive (literal_at literals m)) in subst P (sym e.1) (with_true-same known l))
        | inr o ↦ other r (omega (arith, k, h)) o.1 ∙ serves.needs r (omega (arith, k, o.1)) (grows (variable (literal_at literals r)) need)
      ];
      lemma_false = λ v named. elim (eqb_tells v (variable l)) [
        | inl e ↦ absurd (let wrong : true ≡ false = sym named ∙ ap (is_named lemma) e.1 ∙ unnamed in cc)
        | inr o ↦ with_true-other known l v o.1 ∙ serves.lemma_false v named
      ];
      open_ = λ r k within out. other r within (omega (arith, k)) ∙ serves.open_ r (omega (arith, k)) within out;
    })))

-- the conflict is the first hint, and its variables are needed
pub derive-start : (clauses : List (List ℤ)) (literals : List ℤ) (needed : List Bool) (conflict : ℕ) (clause : List ℤ) → clause_at clauses conflict ≡ Some clause → IsFalsified (assigned literals) clause → All (λ m. is_needed needed (variable m) ≡ true) clause → Derive clauses literals needed [] (length literals) (conflict ∷ [])
derive-start clauses literals needed conflict clause at falsified all = λ known serves.
    let whole : take (length literals) literals ≡ literals = take_all (length literals) literals (omega arith) in
    let false_in : left (assigned (take (length literals) literals)) clause ≡ [] = rw whole falsified in
    let same : All (λ l. is_some_false (literal known l) ≡ is_some_false (literal (assigned (take (length literals) literals)) l)) clause = λ k d within.
    let is : is_some_false (literal (assigned (take (length literals) literals)) (get_or clause k d)) ≡ true = left_none (assigned (take (length literals) literals)) clause k d false_in within in
    needed-same (length needed) literals needed [] (length literals) (length literals) (get_or clause k d) known (omega arith) (omega arith) (all k d within) serves is ∙ sym is in
    record {
      before = [];
      last = conflict;
      hinted = refl;
      known = known;
      propagates = refl;
      clause = clause;
      there = at;
      falsified = left-same known (assigned (take (length literals) literals)) clause same ∙ false_in;
    }

-- the assignment that makes a lemma false has the trail's values
pub false-value : (literals : List ℤ) (known : Known) (lemma : List ℤ) (v : ℕ) → All (IsFalse (assigned literals)) lemma → is_named lemma v ≡ true → with_false known lemma v ≡ assigned literals v
false-value literals known [] v all named = absurd (let wrong : false ≡ true = named in cc)
false-value literals known (l ∷ more) v all named =
    let own : Known = with_value known (variable l) (not (is_positive l)) in
    let later : All (IsFalse (assigned literals)) more = All-tail (IsFalse (assigned literals)) l more all in
    let here : assigned literals (variable l) ≡ Some (not (is_positive l)) = false-variable (assigned literals) l (All-head (IsFalse (assigned literals)) l more all) in
    let P : Bool → Type 0 = λ b. is_named more v ≡ b → with_false own more v ≡ assigned literals v in
    elim (is_named more v) as P [
      | true ↦ λ e. false-value literals own more v later e
      | false ↦ λ e. with_false-other own more v e ∙ elim (eqb_tells v (variable l)) [
        | inl same ↦ rw (same.0, same.1) (sym here)
        | inr other ↦ absurd (let wrong : false ≡ true = sym e ∙ rw other.0 at named in cc)
      ]
    ] refl

-- where the whole trail was walked, the hints derive the lemma
pub derive-end : (clauses : List (List ℤ)) (literals : List ℤ) (needed : List Bool) (lemma : List ℤ) (used : List ℕ) → All (IsFalse (assigned literals)) lemma → Derive clauses literals needed lemma 0 used → EndsInConflict clauses (with_false none lemma) (reverse used)
derive-end clauses literals needed lemma used all derive = derive (with_false none lemma) (record {
  only = λ v b has.
      let P : Bool → Type 0 = λ t. is_named lemma v ≡ t → assigned literals v ≡ Some b in
      elim (is_named lemma v) as P [
        | true ↦ λ e. sym (false-value literals none lemma v all e) ∙ has
        | false ↦ λ e. absurd (let wrong : None ≡ Some b = sym (with_false-other none lemma v e) ∙ has in cc)
      ] refl;
  needs = λ q h. absurd (omega (arith, h));
  lemma_false = λ v named. false-value literals none lemma v all named;
  open_ = λ q k h unnamed. with_false-other none lemma (variable (literal_at literals q)) unnamed;
})
