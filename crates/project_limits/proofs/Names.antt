-- Names that are taken into two lists are never more in the one that began empty.
use Rattle.project_limits.proofs.Common.{◌≡◌, ℕ, suc, ◌+◌, ◌≤◌, Bool, true, false, ◌||◌, cond, if◌then◌else◌, List, [], ◌∷◌, ◌++◌, length, refl, sym, ap, subst, ◌∙◌, arith, length-append, bytes_eq}
use Rattle.project_limits.proofs.Common.{bytes_eq-Decides, is_among, with_name, with_names}
use Rattle.std.proofs.lemmas.List.Folds.{list_any-append}
use Rattle.project_lines.proofs.Reading.{names_cons, names_none}

-- how many of the names are among the few
abbrev shared : List (List ℕ) → List (List ℕ) → ℕ
shared few [] = 0
shared few (name ∷ names) = cond (is_among name few) (1 + shared few names) (shared few names)

shared_few : (few names : List (List ℕ)) → shared few names ≤ length names
shared_few few [] = omega arith
shared_few few (name ∷ names) = at_most (is_among name few) (shared few names) (length names) (shared_few few names)
  where
    at_most : (b : Bool) (n m : ℕ) → n ≤ m → cond b (1 + n) n ≤ suc m
    at_most true n m le = omega (arith, le)
    at_most false n m le = omega (arith, le)

-- what is among names is among more of them
among_more : (few : List (List ℕ)) (x name : List ℕ) → is_among name few ≡ true → is_among name (few ++ x ∷ []) ≡ true
among_more few x name is = list_any-append (λ other. bytes_eq other name) few (x ∷ []) ∙ ap (λ (b : Bool). b || is_among name (x ∷ [])) is

counted : (b c : Bool) (n m : ℕ) → (b ≡ true → c ≡ true) → n ≤ m → cond b (1 + n) n ≤ cond c (1 + m) m
counted true true n m more le = omega (arith, le)
counted true false n m more le = absurd (let e : false ≡ true = more refl in cc)
counted false true n m more le = omega (arith, le)
counted false false n m more le = le

shared_more : (few : List (List ℕ)) (x : List ℕ) (names : List (List ℕ)) → shared few names ≤ shared (few ++ x ∷ []) names
shared_more few x [] = omega arith
shared_more few x (name ∷ names) = counted (is_among name few) (is_among name (few ++ x ∷ [])) (shared few names) (shared (few ++ x ∷ []) names) (among_more few x name) (shared_more few x names)

shared_behind : (few names : List (List ℕ)) (x : List ℕ) → shared few names ≤ shared few (names ++ x ∷ [])
shared_behind few [] x = omega arith
shared_behind few (name ∷ names) x = counted (is_among name few) (is_among name few) (shared few names) (shared few (names ++ x ∷ [])) (λ e. e) (shared_behind few names x)

-- a name that is in the list is among it
itself : (x : List ℕ) → bytes_eq x x ≡ true
itself x = (bytes_eq-Decides x x).1 refl

last_among : (names : List (List ℕ)) (x : List ℕ) → is_among x (names ++ x ∷ []) ≡ true
last_among names x = list_any-append (λ other. bytes_eq other x) names (x ∷ []) ∙ either (is_among x names) (bytes_eq x x) (itself x)
  where
    either : (b c : Bool) → c ≡ true → (b || (c || false)) ≡ true
    either true c is = refl
    either false c is = ap (λ (d : Bool). d || false) is

one_more : (b c : Bool) (n m : ℕ) → (b ≡ true → c ≡ true) → n + 1 ≤ m → cond b (1 + n) n + 1 ≤ cond c (1 + m) m
one_more true true n m more le = omega (arith, le)
one_more true false n m more le = absurd (let e : false ≡ true = more refl in cc)
one_more false true n m more le = omega (arith, le)
one_more false false n m more le = le

-- one that is not among the few, and is among the names, is one more that they share

gained_here : (few : List (List ℕ)) (x name : List ℕ) (names : List (List ℕ)) → is_among x few ≡ false → name ≡ x → shared few (name ∷ names) + 1 ≤ shared (few ++ x ∷ []) (name ∷ names)
gained_here few x name names new same =
    let before : is_among name few ≡ false = ap (λ (n : List ℕ). is_among n few) same ∙ new in
    let now : is_among name (few ++ x ∷ []) ≡ true = ap (λ (n : List ℕ). is_among n (few ++ x ∷ [])) same ∙ last_among few x in
    let less : shared few (name ∷ names) ≡ shared few names = ap (λ (b : Bool). cond b (1 + shared few names) (shared few names)) before in
    let more : shared (few ++ x ∷ []) (name ∷ names) ≡ 1 + shared (few ++ x ∷ []) names = ap (λ (b : Bool). cond b (1 + shared (few ++ x ∷ []) names) (shared (few ++ x ∷ []) names)) now in
    omega (arith, less, more, shared_more few x names)

gained_at : (b : Bool) (few : List (List ℕ)) (x name : List ℕ) (names : List (List ℕ)) → bytes_eq name x ≡ b → is_among x few ≡ false → is_among x (name ∷ names) ≡ true → (is_among x names ≡ true → shared few names + 1 ≤ shared (few ++ x ∷ []) names) → shared few (name ∷ names) + 1 ≤ shared (few ++ x ∷ []) (name ∷ names)
gained_at true few x name names is new there later = gained_here few x name names new ((bytes_eq-Decides name x).0 is)
gained_at false few x name names is new there later =
    one_more (is_among name few) (is_among name (few ++ x ∷ [])) (shared few names) (shared (few ++ x ∷ []) names) (among_more few x name) (later (sym (ap (λ (b : Bool). b || is_among x names) is) ∙ there))

gained : (few : List (List ℕ)) (x : List ℕ) (names : List (List ℕ)) → is_among x few ≡ false → is_among x names ≡ true → shared few names + 1 ≤ shared (few ++ x ∷ []) names
gained few x [] new there = absurd (let e : false ≡ true = there in cc)
gained few x (name ∷ names) new there = gained_at (bytes_eq name x) few x name names refl new there (gained few x names new)

-- where the one list is shared by the other, it still is when a name is taken into both
taken : (a b : List (List ℕ)) (x : List ℕ) (p q : Bool) → is_among x a ≡ p → is_among x b ≡ q → length a ≤ shared a b → length (if p then a else a ++ x ∷ []) ≤ shared (if p then a else a ++ x ∷ []) (if q then b else b ++ x ∷ [])
taken a b x true true is are le = le
taken a b x true false is are le = omega (arith, le, shared_behind a b x)
taken a b x false true is are le = omega (arith, le, gained a x b is are, length-append a (x ∷ []))
taken a b x false false is are le = omega (arith, le, shared_behind a b x, gained a x (b ++ x ∷ []) is (last_among b x), length-append a (x ∷ []))

both_taken : (a b : List (List ℕ)) (x : List ℕ) → length a ≤ shared a b → length (with_name a x) ≤ shared (with_name a x) (with_name b x)
unfolding with_name
both_taken a b x le = taken a b x (is_among x a) (is_among x b) refl refl le

all_taken : (a b more : List (List ℕ)) → length a ≤ shared a b → length (with_names a more) ≤ length (with_names b more)
all_taken a b [] le = subst (λ (few : List (List ℕ)). length few ≤ length (with_names b [])) (sym (names_none a)) (subst (λ (bs : List (List ℕ)). length a ≤ length bs) (sym (names_none b)) (omega (arith, le, shared_few a b)))
all_taken a b (x ∷ more) le =
    subst (λ (few : List (List ℕ)). length few ≤ length (with_names b (x ∷ more))) (sym (names_cons a x more)) (subst (λ (bs : List (List ℕ)). length (with_names (with_name a x) more) ≤ length bs) (sym (names_cons b x more)) (all_taken (with_name a x) (with_name b x) more (both_taken a b x le)))

pub never_more : (names more : List (List ℕ)) → length (with_names [] more) ≤ length (with_names names more)
never_more names more = all_taken [] names more (omega arith)

-- Names that are among others are no more than those.

abbrev pub AreAmong : List (List ℕ) → List (List ℕ) → Type 0
AreAmong [] names = Unit {0}
AreAmong (x ∷ xs) names = (is_among x names ≡ true) × AreAmong xs names

one_inside : (a b : List (List ℕ)) (x : List ℕ) (p : Bool) → is_among x a ≡ p → is_among x b ≡ true → length a ≤ shared a b → length (if p then a else a ++ x ∷ []) ≤ shared (if p then a else a ++ x ∷ []) b
one_inside a b x true is there le = le
one_inside a b x false is there le = omega (arith, le, gained a x b is there, length-append a (x ∷ []))

taken_inside : (a b : List (List ℕ)) (x : List ℕ) → is_among x b ≡ true → length a ≤ shared a b → length (with_name a x) ≤ shared (with_name a x) b
unfolding with_name
taken_inside a b x there le = one_inside a b x (is_among x a) refl there le

all_inside : (a b xs : List (List ℕ)) → AreAmong xs b → length a ≤ shared a b → length (with_names a xs) ≤ length b
all_inside a b [] are le = subst (λ (few : List (List ℕ)). length few ≤ length b) (sym (names_none a)) (omega (arith, le, shared_few a b))
all_inside a b (x ∷ xs) are le = subst (λ (few : List (List ℕ)). length few ≤ length b) (sym (names_cons a x xs)) (all_inside (with_name a x) b xs are.1 (taken_inside a b x are.0 le))

pub few_among : (xs names : List (List ℕ)) → AreAmong xs names → length (with_names [] xs) ≤ length names
few_among xs names are = all_inside [] names xs are (omega arith)

-- Names are among those that they are taken into.

one_kept : (names : List (List ℕ)) (x y : List ℕ) (p : Bool) → is_among x names ≡ true → is_among x (if p then names else names ++ y ∷ []) ≡ true
one_kept names x y true there = there
one_kept names x y false there = among_more names y x there

name_kept : (names : List (List ℕ)) (x y : List ℕ) → is_among x names ≡ true → is_among x (with_name names y) ≡ true
unfolding with_name
name_kept names x y there = one_kept names x y (is_among y names) there

names_kept : (names more : List (List ℕ)) (x : List ℕ) → is_among x names ≡ true → is_among x (with_names names more) ≡ true
names_kept names [] x there = subst (λ (ns : List (List ℕ)). is_among x ns ≡ true) (sym (names_none names)) there
names_kept names (y ∷ more) x there = subst (λ (ns : List (List ℕ)). is_among x ns ≡ true) (sym (names_cons names y more)) (names_kept (with_name names y) more x (name_kept names x y there))

one_there : (names : List (List ℕ)) (x : List ℕ) (p : Bool) → is_among x names ≡ p → is_among x (if p then names else names ++ x ∷ []) ≡ true
one_there names x true is = is
one_there names x false is = last_among names x

name_there : (names : List (List ℕ)) (x : List ℕ) → is_among x (with_name names x) ≡ true
unfolding with_name
name_there names x = one_there names x (is_among x names) refl

pub taken_among : (names xs : List (List ℕ)) → AreAmong xs (with_names names xs)
taken_among names [] = tt
taken_among names (x ∷ xs) =
    let same : with_names (with_name names x) xs ≡ with_names names (x ∷ xs) = sym (names_cons names x xs) in
    (subst (λ (ns : List (List ℕ)). is_among x ns ≡ true) same (names_kept (with_name names x) xs x (name_there names x)), subst (λ (ns : List (List ℕ)). AreAmong xs ns) same (taken_among (with_name names x) xs))

pub among_both : (xs ys names : List (List ℕ)) → AreAmong xs names → AreAmong ys names → AreAmong (xs ++ ys) names
among_both [] ys names are also = also
among_both (x ∷ xs) ys names are also = (are.0, among_both xs ys names are.1 also)

pub among_first : (xs ys names : List (List ℕ)) → AreAmong (xs ++ ys) names → AreAmong xs names
among_first [] ys names are = tt
among_first (x ∷ xs) ys names are = (are.0, among_first xs ys names are.1)

pub among_later : (xs ys names : List (List ℕ)) → AreAmong (xs ++ ys) names → AreAmong ys names
among_later [] ys names are = are
among_later (x ∷ xs) ys names are = among_later xs ys names are.1
