-- A lemma that goes on a legal log is refused for want of memory alone.
use Rattle.lrat_checker.proofs.Common.{◌≡◌, ℕ, zero, suc, ◌+◌, ◌<◌, Bool, true, false, ◌||◌, List, [], ◌∷◌, ◌++◌, length, take, get_or, ℤ, Some, None, refl, ap, sym, ◌∙◌, inl, inr, ◌⊎◌, subst}
use Rattle.lrat_checker.proofs.Common.{slice_get, arith, slice_get-get_or, slice_get_within, variable, CheckError, Known, none, with_true, with_false, IsUnit, IsFalsified, clause_at, Propagates}
use Rattle.lrat_checker.proofs.Common.{EndsInConflict, is_named, AreFree, IsWithin, GoesOnBy, Log, IsRefused, Reaches}
use Rattle.lrat_checker.specs.declared.refusal.CheckError.TheVariants.{BadLiteral, Contained, BadHint, NotUnit, NoConflict, Memory}

named-take : (xs : List ℤ) (n v : ℕ) → is_named xs v ≡ false → is_named (take n xs) v ≡ false
named-take xs zero v h = refl
named-take [] (suc n) v h = refl
named-take (x ∷ xs) (suc n) v h = elim (Rattle.std.proofs.Common.nat_eq v (variable x)) as (λ (b : Bool). (b || is_named xs v) ≡ false → (b || is_named (take n xs) v) ≡ false) [ true ↦ λ e. e | false ↦ λ e. named-take xs n v e ] h

-- the first of free literals are free
pub free-take : (free : ℕ) (lits : List ℤ) (n : ℕ) → AreFree free lits → AreFree free (take n lits)
free-take free lits zero are = tt
free-take free [] (suc n) are = tt
free-take free (l ∷ more) (suc n) are = (are.0, are.1, named-take more n (variable l) are.2, free-take free more n are.3)

-- a clause has one unit literal at most
unit_one : (known : Known) (clause : List ℤ) (l m : ℤ) → IsUnit known clause l → IsUnit known clause m → l ≡ m
unit_one known clause l m a b = let e : l ∷ [] ≡ m ∷ [] = sym a.alone ∙ b.alone in cc

clause_one : (clauses : List (List ℤ)) (hint : ℕ) (a b : List ℤ) → clause_at clauses hint ≡ Some a → clause_at clauses hint ≡ Some b → a ≡ b
clause_one clauses hint a b e f = let g : Some a ≡ Some b = sym e ∙ f in cc

-- what the clause of a hint is, where the hints end in a conflict
pub hinted-is : (clauses : List (List ℤ)) (start : Known) (before : List ℕ) (last : ℕ) (known : Known) (clause : List ℤ) → Propagates clauses start before known → clause_at clauses last ≡ Some clause → IsFalsified known clause → (i hint : ℕ) (reached : Known) → slice_get (before ++ last ∷ []) i ≡ Some hint → Propagates clauses start (take i (before ++ last ∷ [])) reached → (here : List ℤ) × (clause_at clauses hint ≡ Some here) × (((l : ℤ) × IsUnit reached here l) ⊎ (IsFalsified reached here × (i + 1 ≡ length (before ++ last ∷ []))))
hinted-is clauses start [] last known clause steps at falsified zero hint reached there same =
    let is : last ≡ hint = cc in
    let P : ℕ → Type 0 = λ h. clause_at clauses h ≡ Some clause in
    let Q : Known → Type 0 = λ k. IsFalsified k clause in
    (clause, subst P is at, inr (subst Q (sym steps ∙ same) falsified, omega arith))
hinted-is clauses start [] last known clause steps at falsified (suc i) hint reached there same = absurd (let e : None ≡ Some hint = there in cc)
hinted-is clauses start (h ∷ before) last known clause (c, l, at_h, unit, rest) at falsified zero hint reached there same =
    let is : h ≡ hint = cc in
    let P : ℕ → Type 0 = λ k. clause_at clauses k ≡ Some c in
    let Q : Known → Type 0 = λ k. IsUnit k c l in
    (c, subst P is at_h, inl (l, subst Q same unit))
hinted-is clauses start (h ∷ before) last known clause (c, l, at_h, unit, rest) at falsified (suc i) hint reached there (d, m, at_d, unit_m, rest_m) =
    let same : c ≡ d = clause_one clauses h c d at_h at_d in
    let P : List ℤ → Type 0 = λ k. IsUnit start k m in
    let one : l ≡ m = unit_one start c l m unit (subst P (sym same) unit_m) in
    let Q : ℤ → Type 0 = λ k. Propagates clauses (with_true start k) (take i (before ++ last ∷ [])) reached in
    let later = hinted-is clauses (with_true start l) before last known clause rest at falsified i hint reached there (subst Q (sym one) rest_m) in
    (later.0, later.1, elim later.2 [ inl u ↦ inl u | inr f ↦ inr (f.0, omega (arith, f.1)) ])

-- hints that end in a conflict are not all unit
pub not_all_unit : (clauses : List (List ℤ)) (start : Known) (before : List ℕ) (last : ℕ) (known : Known) (clause : List ℤ) → Propagates clauses start before known → clause_at clauses last ≡ Some clause → IsFalsified known clause → (reached : Known) → Propagates clauses start (before ++ last ∷ []) reached → ⊥
not_all_unit clauses start [] last known clause steps at falsified reached (d, m, at_d, unit_m, rest_m) =
    let same : d ≡ clause = clause_one clauses last d clause at_d at in
    let P : List ℤ → Type 0 = λ k. IsUnit start k m in
    let Q : Known → Type 0 = λ k. IsFalsified k clause in
    let wrong : m ∷ [] ≡ [] = sym (subst P same unit_m).alone ∙ subst Q (sym steps) falsified in
    cc
not_all_unit clauses start (h ∷ before) last known clause (c, l, at_h, unit, rest) at falsified reached (d, m, at_d, unit_m, rest_m) =
    let same : c ≡ d = clause_one clauses h c d at_h at_d in
    let P : List ℤ → Type 0 = λ k. IsUnit start k m in
    let one : l ≡ m = unit_one start c l m unit (subst P (sym same) unit_m) in
    let Q : ℤ → Type 0 = λ k. Propagates clauses (with_true start k) (before ++ last ∷ []) reached in
    not_all_unit clauses (with_true start l) before last known clause rest at falsified reached (subst Q (sym one) rest_m)

-- what the clause of a hint is, where the hints end in a conflict
reached-is : (clauses : List (List ℤ)) (start : Known) (hints : List ℕ) (i hint : ℕ) (reached : Known) → EndsInConflict clauses start hints → Reaches clauses start hints i hint reached → (here : List ℤ) × (clause_at clauses hint ≡ Some here) × (((l : ℤ) × IsUnit reached here l) ⊎ (IsFalsified reached here × (i + 1 ≡ length hints)))
reached-is clauses start hints i hint reached ends reaches =
    let P : List ℕ → Type 0 = λ hs. slice_get hs i ≡ Some hint in
    let Q : List ℕ → Type 0 = λ hs. Propagates clauses start (take i hs) reached in
    let found = hinted-is clauses start ends.before ends.last ends.known ends.clause ends.propagates ends.there ends.falsified i hint reached (subst P ends.hinted reaches.there) (subst Q ends.hinted reaches.propagates) in
    (found.0, found.1, elim found.2 [ inl u ↦ inl u | inr f ↦ inr (f.0, f.1 ∙ sym (ap (length {A = ℕ}) ends.hinted)) ])

-- a lemma that goes on the log is refused for want of memory alone
pub only_memory : (log : Log) (lemma : List ℤ) (hints : List ℕ) (e : CheckError) → GoesOnBy log.clauses log.free log.lemmas lemma hints → IsRefused log lemma hints e → e ≡ Memory
only_memory log lemma hints (BadLiteral i) on why = absurd (why.bad (free-take log.free lemma (i + 1) on.over_free))
only_memory log lemma hints (Contained n) on (are, why) =
    let within : why.place < length log.lemmas = slice_get_within log.lemmas why.place why.earlier why.there in
    let got : Some (get_or log.lemmas why.place []) ≡ Some why.earlier = sym (slice_get-get_or log.lemmas why.place [] within) ∙ why.there in
    let same : why.earlier ≡ get_or log.lemmas why.place [] = cc in
    let P : List ℤ → Type 0 = λ earlier. IsWithin earlier lemma in
    absurd (on.new why.place [] within (subst P same why.contained))
only_memory log lemma hints (BadHint i) on (fit, why) =
    let found = reached-is (log.clauses ++ log.lemmas) (with_false none lemma) hints i why.hint why.known on.follows why.reaches in
    let wrong : None ≡ Some found.0 = sym why.names_none ∙ found.1 in
    absurd (cc)
only_memory log lemma hints (NotUnit i) on (fit, why) =
    let found = reached-is (log.clauses ++ log.lemmas) (with_false none lemma) hints i why.hint why.known on.follows why.reaches in
    let same : found.0 ≡ why.clause = clause_one (log.clauses ++ log.lemmas) why.hint found.0 why.clause found.1 why.there in
    elim found.2 [
      | inl u ↦ (let P : List ℤ → Type 0 = λ k. IsUnit why.known k u.0 in absurd (why.not_unit u.0 (subst P same u.1)))
      | inr f ↦ (let P : List ℤ → Type 0 = λ k. IsFalsified why.known k in absurd (omega (arith, why.not_false (subst P same f.0), f.1)))
    ]
only_memory log lemma hints NoConflict on (fit, why) =
    let P : List ℕ → Type 0 = λ hs. Propagates (log.clauses ++ log.lemmas) (with_false none lemma) hs why.known in
    absurd (not_all_unit (log.clauses ++ log.lemmas) (with_false none lemma) on.follows.before on.follows.last on.follows.known on.follows.clause on.follows.propagates on.follows.there on.follows.falsified why.known (subst P on.follows.hinted why.propagates))
only_memory log lemma hints Memory on why = refl
