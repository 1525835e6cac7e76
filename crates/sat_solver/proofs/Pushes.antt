-- Trails that grow and shrink.
use Rattle.sat_solver.proofs.Common.{◌≡◌, ℕ, zero, suc, ◌+◌, ◌<◌, ◌≤◌, Bool, not, cond, List, [], ◌∷◌, ◌++◌, length, take, get_or, set, ℤ, pos, Option, Some, None, is_some, refl, ap, sym, ◌∙◌, inl}
use Rattle.sat_solver.proofs.Common.{inr, ◌⊎◌, subst, arith, Contains, count_by, eqb_tells, leb_tells, append-nil, take_all, take-append-le, take-take, take_at, length-take-le, length_push}
use Rattle.sat_solver.proofs.Common.{get_or_append_left, get_or_push, get_or-set_same, get_or-set_other, get_or-take, Contains-append_left, Contains-push, sum_by-set, variable, Known, none}
use Rattle.sat_solver.proofs.Common.{with_value, with_true, is_positive, literal, IsUnit, clause_at, known_of, assigned, literal_at, IsReason, AreApart, AreStarts, AreReasoned, IsTrail, IsUnwound}
use Rattle.sat_solver.proofs.Walks.{with_all-append, with_true-other, with_true-same}

-- the variable of a literal is its absolute value
pub variable-abs : (l : ℤ) → Rattle.std.specs.Prelude.nat_abs l ≡ variable l
variable-abs (pos n) = refl
variable-abs (Rattle.std.proofs.Common.negsuc n) = refl

pub take-all : (literals : List ℤ) → take (length literals) literals ≡ literals
take-all literals = take_all (length literals) literals (omega arith)

-- what is read at a place of a list that has grown
at-push : (literals : List ℤ) (l : ℤ) (p : ℕ) → p < length literals → literal_at (literals ++ l ∷ []) p ≡ literal_at literals p
at-push literals l p h = get_or_append_left literals (l ∷ []) (pos 0) p h

last-push : (literals : List ℤ) (l : ℤ) → literal_at (literals ++ l ∷ []) (length literals) ≡ l
last-push literals l = get_or_push literals l (pos 0) (length literals) refl

take-push : (literals : List ℤ) (l : ℤ) (p : ℕ) → p ≤ length literals → take p (literals ++ l ∷ []) ≡ take p literals
take-push literals l p h = take-append-le p literals (l ∷ []) h

pub last_or : (n p : ℕ) → p < n + 1 → (p < n) ⊎ (p ≡ n)
last_or n p h = elim (leb_tells n p) [ inl least ↦ inr (omega (arith, least.1, h)) | inr less ↦ inl less.1 ]

pub apart-push : (limit : ℕ) (literals : List ℤ) (l : ℤ) → AreApart limit literals → assigned literals (variable l) ≡ None → variable l < limit → AreApart limit (literals ++ l ∷ [])
apart-push limit literals l apart open_ within = record {
  open_ = λ p h. elim (last_or (length literals) p (let e : length (literals ++ l ∷ []) ≡ length literals + 1 = length_push literals l in omega (arith, h, e))) [
    | inl early ↦ rw (take-push literals l p (omega (arith, early)), at-push literals l p early) (apart.open_ p early)
    | inr last ↦ rw (last, take-push literals l (length literals) (omega arith), last-push literals l, take-all literals) open_
  ];
  within = λ p h. elim (last_or (length literals) p (let e : length (literals ++ l ∷ []) ≡ length literals + 1 = length_push literals l in omega (arith, h, e))) [
    | inl early ↦ rw (at-push literals l p early) (apart.within p early)
    | inr last ↦ rw (last, last-push literals l) within
  ];
}

-- a reason stays one while the trail and its levels grow
reason-push : (clauses : List (List ℤ)) (free : ℕ) (starts later : List ℕ) (literals : List ℤ) (l : ℤ) (p reason : ℕ) → p < length literals → IsReason clauses free starts literals p reason → IsReason clauses free (starts ++ later) (literals ++ l ∷ []) p reason
reason-push clauses free starts later literals l p zero h is = rw (at-push literals l p h) (is.0, is.1, Contains-append_left starts later p is.2)
reason-push clauses free starts later literals l p (suc k) h is = (is.0, is.1, rw (at-push literals l p h, take-push literals l p (omega (arith, h))) is.2)

pub reasoned-push : (clauses : List (List ℤ)) (free : ℕ) (starts later : List ℕ) (literals : List ℤ) (reasons : List ℕ) (l : ℤ) (reason : ℕ) → AreReasoned clauses free literals reasons starts → IsReason clauses free (starts ++ later) (literals ++ l ∷ []) (length literals) reason → AreReasoned clauses free (literals ++ l ∷ []) (reasons ++ reason ∷ []) (starts ++ later)
reasoned-push clauses free starts later literals reasons l reason reasoned is = record {
  paired = length_push reasons reason ∙ ap (λ (n : ℕ). n + 1) reasoned.paired ∙ sym (length_push literals l);
  each = λ p h. elim (last_or (length literals) p (let e : length (literals ++ l ∷ []) ≡ length literals + 1 = length_push literals l in omega (arith, h, e))) [
    | inl early ↦ rw (get_or_append_left reasons (reason ∷ []) 0 p (omega (arith, early, reasoned.paired))) (reason-push clauses free starts later literals l p (get_or reasons p 0) early (reasoned.each p early))
    | inr last ↦ rw (last, get_or_push reasons reason 0 (length literals) reasoned.paired) is
  ];
}

pub starts-grow : (count more : ℕ) (starts : List ℕ) → count ≤ more → AreStarts count starts → AreStarts more starts
starts-grow count more starts h are = record { within = λ j k. omega (arith, are.within j k, h); ascend = are.ascend }

pub starts-push : (count : ℕ) (starts : List ℕ) → AreStarts count starts → AreStarts (count + 1) (starts ++ count ∷ [])
starts-push count starts are = record {
  within = λ j h. elim (last_or (length starts) j (let e : length (starts ++ count ∷ []) ≡ length starts + 1 = length_push starts count in omega (arith, h, e))) [
    | inl early ↦ rw (get_or_append_left starts (count ∷ []) 0 j early) (omega (arith, are.within j early))
    | inr last ↦ rw (last, get_or_push starts count 0 (length starts) refl) (omega arith)
  ];
  ascend = λ i j less h. elim (last_or (length starts) j (let e : length (starts ++ count ∷ []) ≡ length starts + 1 = length_push starts count in omega (arith, h, e))) [
    | inl early ↦ rw (get_or_append_left starts (count ∷ []) 0 j early, get_or_append_left starts (count ∷ []) 0 i (omega (arith, less, early))) (are.ascend i j less early)
    | inr last ↦ rw (last, get_or_push starts count 0 (length starts) refl, get_or_append_left starts (count ∷ []) 0 i (omega (arith, less, last))) (are.within i (omega (arith, less, last)))
  ];
}

pub assigned-push : (literals : List ℤ) (l : ℤ) → assigned (literals ++ l ∷ []) ≡ with_true (assigned literals) l
assigned-push literals l = with_all-append none literals (l ∷ [])

-- a table with one more value
pub table-with : (table : List (Option Bool)) (v : ℕ) (b : Bool) → v < length table → known_of (set table v (Some b)) ≡ with_value (known_of table) v b
table-with table v b h = λ i w. at w i where
  at : (w : ℕ) → get_or (set table v (Some b)) w None ≡ with_value (known_of table) v b w
  at w = elim (eqb_tells w v) [ inl same ↦ rw (same.0, same.1) (get_or-set_same table v (Some b) None h) | inr other ↦ rw other.0 (get_or-set_other table v w (Some b) None other.1) ]

pub count-with : (table : List (Option Bool)) (v : ℕ) (b : Bool) → v < length table → known_of table v ≡ None → count_by is_some (set table v (Some b)) ≡ count_by is_some table + 1
count-with table v b h open_ =
    let f : Option Bool → ℕ = λ o. cond (is_some o) 1 0 in
    let sum : count_by is_some (set table v (Some b)) + f (get_or table v None) ≡ count_by is_some table + 1 = sum_by-set f table v (Some b) None h in
    let was : f (get_or table v None) ≡ 0 = ap f open_ in
    omega (arith, sum, was)

pub count-without : (table : List (Option Bool)) (v : ℕ) (b : Bool) → v < length table → known_of table v ≡ Some b → count_by is_some (set table v None) + 1 ≡ count_by is_some table
count-without table v b h is =
    let f : Option Bool → ℕ = λ o. cond (is_some o) 1 0 in
    let sum : count_by is_some (set table v None) + f (get_or table v None) ≡ count_by is_some table + 0 = sum_by-set f table v None None h in
    let was : f (get_or table v None) ≡ 1 = ap f is in
    omega (arith, sum, was)

pub variable-open : (known : Known) (l : ℤ) → literal known l ≡ None → known (variable l) ≡ None
variable-open known (pos n) h = h
variable-open known (Rattle.std.proofs.Common.negsuc n) h = none_at (known (suc n)) h where
  none_at : (o : Option Bool) → Rattle.std.proofs.Common.option_map not o ≡ None → o ≡ None
  none_at None e = refl
  none_at (Some b) e = cc

unit-reason : (clauses : List (List ℤ)) (free : ℕ) (starts : List ℕ) (literals : List ℤ) (p id : ℕ) (clause : List ℤ) → clause_at clauses id ≡ Some clause → IsUnit (assigned (take p literals)) clause (literal_at literals p) → IsReason clauses free starts literals p id
unit-reason clauses free starts literals p zero clause at unit = absurd (let wrong : None ≡ Some clause = at in cc)
unit-reason clauses free starts literals p (suc k) clause at unit = (clause, at, unit)

-- one more literal with its reason
pub trail-assign : (clauses : List (List ℤ)) (free : ℕ) (values : List (Option Bool)) (literals : List ℤ) (reasons starts later : List ℕ) (l : ℤ) (reason : ℕ) → IsTrail clauses free values literals reasons starts → variable l < length values → known_of values (variable l) ≡ None → IsReason clauses free (starts ++ later) (literals ++ l ∷ []) (length literals) reason → AreStarts (length literals + 1) (starts ++ later) → IsTrail clauses free (set values (variable l) (Some (is_positive l))) (literals ++ l ∷ []) (reasons ++ reason ∷ []) (starts ++ later)
trail-assign clauses free values literals reasons starts later l reason trail within open_ is begun =
    let opens : assigned literals (variable l) ≡ None = ap (λ (k : Known). k (variable l)) (sym trail.known) ∙ open_ in
    record {
      known = table-with values (variable l) (is_positive l) within ∙ ap (λ (k : Known). with_true k l) trail.known ∙ sym (assigned-push literals l);
      apart = rw (Rattle.std.proofs.lemmas.List.length-set values (variable l) (Some (is_positive l))) (apart-push (length values) literals l trail.apart opens within);
      reasoned = reasoned-push clauses free starts later literals reasons l reason trail.reasoned is;
      starts_ = rw (length_push literals l) begun;
      counted = count-with values (variable l) (is_positive l) within open_ ∙ ap (λ (n : ℕ). n + 1) trail.counted ∙ sym (length_push literals l);
    }

-- a clause that is unit gives its literal a reason
pub trail-unit : (clauses : List (List ℤ)) (free : ℕ) (values : List (Option Bool)) (literals : List ℤ) (reasons starts : List ℕ) (l : ℤ) (id : ℕ) (clause : List ℤ) → IsTrail clauses free values literals reasons starts → variable l < length values → clause_at clauses id ≡ Some clause → IsUnit (known_of values) clause l → IsTrail clauses free (set values (variable l) (Some (is_positive l))) (literals ++ l ∷ []) (reasons ++ id ∷ []) starts
trail-unit clauses free values literals reasons starts l id clause trail within at unit =
    let same : starts ++ [] ≡ starts = append-nil starts in
    let here : IsUnit (assigned literals) clause l = let P : Known → Type 0 = λ k. IsUnit k clause l in subst P trail.known unit in
    let open_ : known_of values (variable l) ≡ None = variable-open (known_of values) l unit.open_ in
    let is : IsReason clauses free (starts ++ []) (literals ++ l ∷ []) (length literals) id = unit-reason clauses free (starts ++ []) (literals ++ l ∷ []) (length literals) id clause at (rw (take-push literals l (length literals) (omega arith), last-push literals l, take-all literals) here) in
    rw same at (trail-assign clauses free values literals reasons starts [] l id trail within open_ is (rw same (starts-grow (length literals) (length literals + 1) starts (omega arith) trail.starts_)))

-- a free bit that is open is decided
pub trail-decide : (clauses : List (List ℤ)) (free : ℕ) (values : List (Option Bool)) (literals : List ℤ) (reasons starts : List ℕ) (l : ℤ) → IsTrail clauses free values literals reasons starts → variable l < length values → known_of values (variable l) ≡ None → 0 < variable l → variable l ≤ free → IsTrail clauses free (set values (variable l) (Some (is_positive l))) (literals ++ l ∷ []) (reasons ++ 0 ∷ []) (starts ++ length literals ∷ [])
trail-decide clauses free values literals reasons starts l trail within open_ low high =
    trail-assign clauses free values literals reasons starts (length literals ∷ []) l 0 trail within open_
    (rw (last-push literals l) (low, high, Contains-push starts (length literals)))
    (starts-push (length literals) starts trail.starts_)

-- a table with one value fewer
pub table-without : (table : List (Option Bool)) (literals : List ℤ) (l : ℤ) → variable l < length table → known_of table ≡ assigned (literals ++ l ∷ []) → assigned literals (variable l) ≡ None → known_of (set table (variable l) None) ≡ assigned literals
table-without table literals l h is open_ = λ i w. at w i where
  at : (w : ℕ) → get_or (set table (variable l) None) w None ≡ assigned literals w
  at w = elim (eqb_tells w (variable l)) [
    | inl same ↦ rw same.1 (get_or-set_same table (variable l) None None h ∙ sym open_)
    | inr other ↦ get_or-set_other table (variable l) w None None other.1 ∙ ap (λ (k : Known). k w) (is ∙ assigned-push literals l) ∙ with_true-other (assigned literals) l w other.1
  ]

pub unwind : (values : List (Option Bool)) (literals whole : List ℤ) (l : ℤ) → IsUnwound values (literals ++ l ∷ []) whole → IsUnwound (set values (variable l) None) literals whole
unwind values literals whole l un =
    let count : length (literals ++ l ∷ []) ≡ length literals + 1 = length_push literals l in
    let opens : assigned literals (variable l) ≡ None = rw (take-push literals l (length literals) (omega arith), last-push literals l, take-all literals) at (un.apart.open_ (length literals) (omega (arith, count))) in
    let within : variable l < length values = rw (last-push literals l) at (un.apart.within (length literals) (omega (arith, count))) in
    let value : known_of values (variable l) ≡ Some (is_positive l) = ap (λ (k : Known). k (variable l)) (un.known ∙ assigned-push literals l) ∙ with_true-same (assigned literals) l in
    record {
      known = table-without values literals l within un.known opens;
      apart = let open_value : Option Bool = None in rw (Rattle.std.proofs.lemmas.List.length-set values (variable l) open_value) (record {
        open_ = λ p h. rw (take-push literals l p (omega (arith, h)), at-push literals l p h) at (un.apart.open_ p (omega (arith, h, count)));
        within = λ p h. rw (at-push literals l p h) at (un.apart.within p (omega (arith, h, count)));
      });
      counted = let less : count_by is_some (set values (variable l) None) + 1 ≡ count_by is_some values = count-without values (variable l) (is_positive l) within value in omega (arith, less, un.counted, count);
      first = sym (take_at literals (l ∷ []) (length literals) refl) ∙ ap (take (length literals)) un.first ∙ take-take (length literals) (length (literals ++ l ∷ [])) whole (omega (arith, count));
    }

-- a start below another level's is one of the levels before
start-before : (starts : List ℕ) (count level p : ℕ) → AreStarts count starts → level < length starts → p < get_or starts level 0 → Contains starts p → Contains (take level starts) p
start-before starts count level p are h below (k, within, e) =
    let at : get_or starts k 0 ≡ p = Rattle.std.proofs.lemmas.List.get_or_default starts k 0 p within ∙ e in
    let early : k < level = elim (leb_tells level k) [
      | inl later ↦ absurd (elim (last_or k level (omega (arith, later.1))) [
        | inl less ↦ omega (arith, are.ascend level k less within, at, below)
        | inr same ↦ omega (arith, at, below, ap (λ (n : ℕ). get_or starts n 0) same)
      ])
      | inr less ↦ less.1
    ] in
    (k, (let e : length (take level starts) ≡ level = length-take-le level starts (omega (arith, h)) in omega (arith, early, e)), get_or-take level starts k p early ∙ e)

reason-take : (clauses : List (List ℤ)) (free : ℕ) (starts : List ℕ) (literals : List ℤ) (level p reason : ℕ) → AreStarts (length literals) starts → level < length starts → p < get_or starts level 0 → IsReason clauses free starts literals p reason → IsReason clauses free (take level starts) (take (get_or starts level 0) literals) p reason
reason-take clauses free starts literals level p zero are h below is = rw (get_or-take (get_or starts level 0) literals p (pos 0) below) (is.0, is.1, start-before starts (length literals) level p are h below is.2)
reason-take clauses free starts literals level p (suc k) are h below is = (is.0, is.1, rw (get_or-take (get_or starts level 0) literals p (pos 0) below, take-take p (get_or starts level 0) literals (omega (arith, below))) is.2)

-- the levels that are kept
pub trail-undo : (clauses : List (List ℤ)) (free : ℕ) (values next : List (Option Bool)) (literals : List ℤ) (reasons starts : List ℕ) (level : ℕ) → IsTrail clauses free values literals reasons starts → level < length starts → IsUnwound next (take (get_or starts level 0) literals) literals → length next ≡ length values → IsTrail clauses free next (take (get_or starts level 0) literals) (take (get_or starts level 0) reasons) (take level starts)
trail-undo clauses free values next literals reasons starts level trail h un same =
    let start : ℕ = get_or starts level 0 in
    let within : get_or starts level 0 < length literals = trail.starts_.within level h in
    let count : length (take (get_or starts level 0) literals) ≡ get_or starts level 0 = length-take-le (get_or starts level 0) literals (omega (arith, within)) in
    record {
      known = un.known;
      apart = un.apart;
      reasoned = record {
        paired = length-take-le (get_or starts level 0) reasons (omega (arith, within, trail.reasoned.paired)) ∙ sym count;
        each = λ p k. rw (get_or-take (get_or starts level 0) reasons p 0 (omega (arith, k, count))) (reason-take clauses free starts literals level p (get_or reasons p 0) trail.starts_ h (omega (arith, k, count)) (trail.reasoned.each p (omega (arith, k, count, within))));
      };
      starts_ = record {
        within = λ j k. let early : length (take level starts) ≡ level = length-take-le level starts (omega (arith, h)) in rw (get_or-take level starts j 0 (omega (arith, k, early)), count) (trail.starts_.ascend j level (omega (arith, k, early)) h);
        ascend = λ i j less k. let early : length (take level starts) ≡ level = length-take-le level starts (omega (arith, h)) in rw (get_or-take level starts i 0 (omega (arith, less, k, early)), get_or-take level starts j 0 (omega (arith, k, early))) (trail.starts_.ascend i j less (omega (arith, k, early, h)));
      };
      counted = un.counted;
    }
