-- The files that lines read, one line after the other.
use Rattle.project_lines.proofs.Common.{◌≡◌, ℕ, ◌+◌, ◌<◌, ◌≤◌, Bool, true, false, Bor, get_or, map, take, List, [], ◌∷◌, ◌++◌, Option, Some, None, length, refl, sym, ap, ap₂, ◌∙◌, subst, arith}
use Rattle.project_lines.proofs.Common.{append_assoc, append-nil, length-append, if◌then◌else◌, nat_tests, ProjectError, OutOfRange, is_among, Known, are_too_many, count_fault, find_path, files_at}
use Rattle.project_lines.proofs.Common.{files_fault, gather, with_line, with_name, with_names, first_top, script_at, script_fault, script_reads, top_of}
use Rattle.std.specs.Option.{option_or}
use Rattle.project_lines.proofs.Faults.{mapped_take}
use Rattle.project_lines.proofs.Finding.{path_more, or_none}

pub names_none : (names : List (List ℕ)) → with_names names [] ≡ names
unfolding with_names
names_none names = refl

pub names_cons : (names : List (List ℕ)) (name : List ℕ) (more : List (List ℕ)) → with_names names (name ∷ more) ≡ with_names (with_name names name) more
unfolding with_names
names_cons names name more = refl

pub names_append : (names xs ys : List (List ℕ)) → with_names names (xs ++ ys) ≡ with_names (with_names names xs) ys
names_append names [] ys = ap (λ ns. with_names ns ys) (sym (names_none names))
names_append names (x ∷ xs) ys = names_cons names x (xs ++ ys) ∙ (names_append (with_name names x) xs ys ∙ ap (λ ns. with_names ns ys) (sym (names_cons names x xs)))

pub names_push_one : (names xs : List (List ℕ)) (x : List ℕ) → with_names names (xs ++ x ∷ []) ≡ with_name (with_names names xs) x
names_push_one names xs x = names_append names xs (x ∷ []) ∙ (names_cons (with_names names xs) x [] ∙ names_none (with_name (with_names names xs) x))

pub gather_push : {X : Type 0} (reads : X → List (List ℕ)) (xs : List X) (x : X) → gather reads (xs ++ x ∷ []) ≡ gather reads xs ++ reads x
unfolding gather
gather_push reads [] x = append-nil (reads x)
gather_push reads (y ∷ ys) x = ap (λ r. reads y ++ r) (gather_push reads ys x) ∙ sym (append_assoc (reads y) (gather reads ys) (reads x))

-- one more that reads files
pub names_push : {X : Type 0} (reads : X → List (List ℕ)) (names : List (List ℕ)) (xs : List X) (x : X) → with_names (with_names names (gather reads xs)) (reads x) ≡ with_names names (gather reads (xs ++ x ∷ []))
names_push reads names xs x = sym (ap (with_names names) (gather_push reads xs x) ∙ names_append names (gather reads xs) (reads x))

-- Names are never fewer.

name_grows : (names : List (List ℕ)) (name : List ℕ) (b : Bool) → length names ≤ length (if b then names else names ++ name ∷ [])
name_grows names name true = omega arith
name_grows names name false = omega (arith, length-append names (name ∷ []))

names_grow : (names more : List (List ℕ)) → length names ≤ length (with_names names more)
unfolding with_name
names_grow names [] = subst (λ ns. length names ≤ length ns) (sym (names_none names)) (omega arith)
names_grow names (name ∷ more) =
    subst (λ ns. length names ≤ length ns) (sym (names_cons names name more))
    (omega (arith, name_grows names name (is_among name names), names_grow (with_name names name) more))

-- where they are too many in the middle, they are too many at the end
pub names_stay : (names more : List (List ℕ)) → 64 < length names → are_too_many (with_names names more) ≡ true
names_stay names more l =
    let g : length names ≤ length (with_names names more) = names_grow names more in
    grind (arith, nat_tests)

pub none_where : (b : Bool) (e : ProjectError) → b ≡ false → (if b then Some e else None) ≡ None
none_where b e h = ap (λ v. if v then Some e else None) h

pub some_where : (b : Bool) (e : ProjectError) → b ≡ true → (if b then Some e else None) ≡ Some e
some_where b e h = ap (λ v. if v then Some e else None) h

pub count_few : (names : List (List ℕ)) (number : ℕ) (files : List (List ℕ)) → (0 < length files → length (with_names names files) ≤ 64) → count_fault names number files ≡ None
unfolding count_fault
count_few names number [] h = refl
count_few names number (file ∷ more) h =
    let few : length (with_names names (file ∷ more)) ≤ 64 = h (omega arith) in
    none_where (are_too_many (with_names names (file ∷ more))) (OutOfRange number) (grind (arith, nat_tests))

pub count_many : (names : List (List ℕ)) (number : ℕ) (files : List (List ℕ)) → 0 < length files → are_too_many (with_names names files) ≡ true → count_fault names number files ≡ Some (OutOfRange number)
unfolding count_fault
count_many names number [] some h = absurd (omega arith)
count_many names number (file ∷ more) some h = some_where (are_too_many (with_names names (file ∷ more))) (OutOfRange number) h

-- The faults behind lines, by what these lines say.

pub files_same : (known : Known) (earlier : List (List ℕ)) (number : ℕ) (line : List ℕ) → known ≡ find_path earlier → files_at known number line ≡ files_fault earlier number line
unfolding files_fault
files_same known earlier number line e = ap (λ k. files_at k number line) e

pub script_same : (known : Known) (names earlier read : List (List ℕ)) (top : Option (List ℕ)) (number : ℕ) (line : List ℕ) → read ≡ with_names names (gather (script_reads known) earlier) → top ≡ first_top earlier → script_at known read top number line ≡ script_fault known names earlier number line
unfolding script_fault
script_same known names earlier read top number line e f = ap₂ (λ r t. script_at known r t number line) e f

or_assoc : {X : Type 0} (o p q : Option X) → option_or (option_or o p) q ≡ option_or o (option_or p q)
or_assoc None p q = refl
or_assoc (Some x) p q = refl

pub top_push : (lines : List (List ℕ)) (line : List ℕ) → first_top (lines ++ line ∷ []) ≡ option_or (first_top lines) (top_of line)
unfolding first_top
top_push [] line = or_none (top_of line)
top_push (l ∷ lines) line = ap (option_or (top_of l)) (top_push lines line) ∙ sym (or_assoc (top_of l) (first_top lines) (top_of line))

-- One member more.

pub reads_step : {A B : Type 0} (v : A → B) (reads : B → List (List ℕ)) (names : List (List ℕ)) (xs : List A) (i : ℕ) (d : A) (old new : List (List ℕ)) → i < length xs → old ≡ with_names names (gather reads (map v (take i xs))) → new ≡ with_names old (reads (v (get_or xs i d))) → new ≡ with_names names (gather reads (map v (take (i + 1) xs)))
reads_step v reads names xs i d old new l h e =
    e ∙ (ap (λ ns. with_names ns (reads (v (get_or xs i d)))) h
    ∙ (names_push reads names (map v (take i xs)) (v (get_or xs i d))
    ∙ ap (λ ys. with_names names (gather reads ys)) (sym (mapped_take v xs i d l))))

pub paths_step : (xs : List (Bor (List ℕ))) (i : ℕ) (d : Bor (List ℕ)) (old new : Known) → i < length xs → old ≡ find_path (map (λ (line : Bor (List ℕ)). line.now) (take i xs)) → new ≡ with_line old (get_or xs i d).now → new ≡ find_path (map (λ (line : Bor (List ℕ)). line.now) (take (i + 1) xs))
paths_step xs i d old new l h e =
    e ∙ (ap (λ k. with_line k (get_or xs i d).now) h
    ∙ (path_more (map (λ (line : Bor (List ℕ)). line.now) (take i xs)) (get_or xs i d).now
    ∙ ap find_path (sym (mapped_take (λ (line : Bor (List ℕ)). line.now) xs i d l))))

pub tops_step : (xs : List (Bor (List ℕ))) (i : ℕ) (d : Bor (List ℕ)) (old got new : Option (List ℕ)) → i < length xs → old ≡ first_top (map (λ (line : Bor (List ℕ)). line.now) (take i xs)) → got ≡ top_of (get_or xs i d).now → new ≡ option_or old got → new ≡ first_top (map (λ (line : Bor (List ℕ)). line.now) (take (i + 1) xs))
tops_step xs i d old got new l h g e =
    e ∙ (ap₂ option_or h g
    ∙ (sym (top_push (map (λ (line : Bor (List ℕ)). line.now) (take i xs)) (get_or xs i d).now)
    ∙ ap first_top (sym (mapped_take (λ (line : Bor (List ℕ)). line.now) xs i d l))))
