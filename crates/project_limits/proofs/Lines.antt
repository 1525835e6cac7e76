-- What holds of lines none of which is bad.
use Rattle.project_limits.proofs.Common.{◌≡◌, ℕ, ◌+◌, ◌≤◌, ◌<◌, Bool, true, false, cond, if◌then◌else◌, List, [], ◌∷◌, ◌++◌, length, map, Option, Some, None, IfSome, find, refl, sym, subst, arith}
use Rattle.project_limits.proofs.Common.{append_assoc, append-nil, nat_tests, ProjectError, OutOfRange, UnsupportedCommand, first_fault, first_of_two, args_of, is_said, key_of, Known, are_too_many}
use Rattle.project_limits.proofs.Common.{count_fault, gather, path_of, with_names, command_of, first_top, has_strange, read_fault, reads_by, script_at, script_fault, script_line_fault, script_reads}
use Rattle.project_lines.specs.declared.script.Command.{Command}
use Rattle.project_lines.specs.declared.script.Command.TheVariants.{Read, Prep, Hierarchy}
use Rattle.project_lines.proofs.Reading.{gather_push, names_append}
use Rattle.project_limits.proofs.Names.{never_more}

pub none_first : (a b : Option ProjectError) → first_of_two a b ≡ None → a ≡ None
none_first None b is = refl
none_first (Some e) b is = is

pub none_later : (a b : Option ProjectError) → first_of_two a b ≡ None → b ≡ None
none_later None b is = is
none_later (Some e) b is = cc

-- The first of several faults is none: so is that of the first one, and that of the others.

pub head_good : {X : Type 0} (fault : List X → ℕ → X → Option ProjectError) (earlier : List X) (number : ℕ) (x : X) (more : List X) → first_fault fault earlier number (x ∷ more) ≡ None → fault earlier number x ≡ None
unfolding first_fault
head_good fault earlier number x more is = none_first (fault earlier number x) (first_fault fault (earlier ++ x ∷ []) (number + 1) more) is

pub tail_good : {X : Type 0} (fault : List X → ℕ → X → Option ProjectError) (earlier : List X) (number : ℕ) (x : X) (more : List X) → first_fault fault earlier number (x ∷ more) ≡ None → first_fault fault (earlier ++ x ∷ []) (number + 1) more ≡ None
unfolding first_fault
tail_good fault earlier number x more is = none_later (fault earlier number x) (first_fault fault (earlier ++ x ∷ []) (number + 1) more) is

-- What is found among several of which none is bad is good where it stands.

found_at : {X : Type 0} (Q : X → Type 0) (b : Bool) (x : X) (found : Option X) → (b ≡ true → Q x) → IfSome found Q → IfSome (cond b (Some x) found) Q
found_at Q true x found here later = here refl
found_at Q false x found here later = later

pub found_good : {X : Type 0} (fault : List X → ℕ → X → Option ProjectError) (test : X → Bool) (Q : X → Type 0) → ((earlier : List X) (number : ℕ) (x : X) → test x ≡ true → fault earlier number x ≡ None → Q x) → (earlier : List X) (number : ℕ) (xs : List X) → first_fault fault earlier number xs ≡ None → IfSome (find test xs) Q
found_good fault test Q good earlier number [] none = tt
found_good fault test Q good earlier number (x ∷ more) none =
    found_at Q (test x) x (find test more) (λ is. good earlier number x is (head_good fault earlier number x more none)) (found_good fault test Q good (earlier ++ x ∷ []) (number + 1) more (tail_good fault earlier number x more none))

-- A line of the script that is good reads no file, or the files are few with those that it reads.

few_by : (b : Bool) (names : List (List ℕ)) (number : ℕ) → b ≡ are_too_many names → (if b then Some (OutOfRange number) else None) ≡ None → length names ≤ 64
few_by true names number is good = cc
few_by false names number is good = grind (arith, nat_tests)

pub counted_few : (names : List (List ℕ)) (number : ℕ) (files : List (List ℕ)) → count_fault names number files ≡ None → (0 < length files) → length (with_names names files) ≤ 64
unfolding count_fault
counted_few names number [] good some = absurd (omega (arith, some))
counted_few names number (file ∷ more) good some = few_by (are_too_many (with_names names (file ∷ more))) (with_names names (file ∷ more)) number refl good

read_few : (names : List (List ℕ)) (number : ℕ) (files : List (List ℕ)) → read_fault names number files ≡ None → (0 < length files) → length (with_names names files) ≤ 64
unfolding read_fault
read_few names number [] good some = absurd (omega (arith, some))
read_few names number (file ∷ more) good some = counted_few names number (file ∷ more) good some

without_strange : (b : Bool) (number : ℕ) (fault : Option ProjectError) → (if b then Some (UnsupportedCommand number) else fault) ≡ None → fault ≡ None
without_strange true number fault good = cc
without_strange false number fault good = good

command_few : (known : Known) (names : List (List ℕ)) (top : Option (List ℕ)) (number : ℕ) (command : Option Command) (args : List (List ℕ)) → script_line_fault known names top number command args ≡ None → (0 < length (map (path_of known) (reads_by command args))) → length (with_names names (map (path_of known) (reads_by command args))) ≤ 64
command_few known names top number None args good some = cc
command_few known names top number (Some Read) args good some = read_few names number (map (path_of known) args) (without_strange (has_strange Read args) number _ good) some
command_few known names top number (Some Prep) args good some = absurd (omega (arith, some))
command_few known names top number (Some Hierarchy) args good some = absurd (omega (arith, some))

said_few : (b : Bool) (known : Known) (names : List (List ℕ)) (top : Option (List ℕ)) (number : ℕ) (command : Option Command) (args : List (List ℕ)) → (if b then script_line_fault known names top number command args else None) ≡ None
    → (0 < length (if b then map (path_of known) (reads_by command args) else [])) → length (with_names names (if b then map (path_of known) (reads_by command args) else [])) ≤ 64
said_few true known names top number command args good some = command_few known names top number command args good some
said_few false known names top number command args good some = absurd (omega (arith, some))

pub line_few : (known : Known) (names : List (List ℕ)) (top : Option (List ℕ)) (number : ℕ) (line : List ℕ) → script_at known names top number line ≡ None → (0 < length (script_reads known line)) → length (with_names names (script_reads known line)) ≤ 64
unfolding script_at script_reads
line_few known names top number line good some = said_few (is_said line) known names top number (command_of (key_of line)) (args_of line) good some

-- With a good line the files are still few.

one_more : (known : Known) (names earlier : List (List ℕ)) (number : ℕ) (line : List ℕ) (reads : List (List ℕ)) → reads ≡ script_reads known line → script_fault known names earlier number line ≡ None → length (with_names [] (gather (script_reads known) earlier)) ≤ 64 → length (with_names [] (gather (script_reads known) earlier ++ reads)) ≤ 64
unfolding script_fault
one_more known names earlier number line [] is good few = subst (λ (ns : List (List ℕ)). length (with_names [] ns) ≤ 64) (sym (append-nil (gather (script_reads known) earlier))) few
one_more known names earlier number line (r ∷ rs) is good few =
    let before : List (List ℕ) = gather (script_reads known) earlier in
    let here : length (with_names (with_names names before) (script_reads known line)) ≤ 64 = line_few known (with_names names before) (first_top earlier) number line good (subst (λ (rs : List (List ℕ)). 0 < length rs) is (omega arith)) in
    let all : length (with_names names (before ++ script_reads known line)) ≤ 64 = subst (λ (ns : List (List ℕ)). length ns ≤ 64) (sym (names_append names before (script_reads known line))) here in
    subst (λ (xs : List (List ℕ)). length (with_names [] (before ++ xs)) ≤ 64) (sym is) (omega (arith, all, never_more names (before ++ script_reads known line)))

pub lines_few : (known : Known) (names earlier : List (List ℕ)) (number : ℕ) (lines : List (List ℕ)) → first_fault (script_fault known names) earlier number lines ≡ None → length (with_names [] (gather (script_reads known) earlier)) ≤ 64 → length (with_names [] (gather (script_reads known) (earlier ++ lines))) ≤ 64
lines_few known names earlier number [] good few = subst (λ (ls : List (List ℕ)). length (with_names [] (gather (script_reads known) ls)) ≤ 64) (sym (append-nil earlier)) few
lines_few known names earlier number (line ∷ more) good few =
    let here = one_more known names earlier number line (script_reads known line) refl (head_good (script_fault known names) earlier number line more good) few in
    let pushed : length (with_names [] (gather (script_reads known) (earlier ++ line ∷ []))) ≤ 64 = subst (λ (ns : List (List ℕ)). length (with_names [] ns) ≤ 64) (sym (gather_push (script_reads known) earlier line)) here in
    subst (λ (ls : List (List ℕ)). length (with_names [] (gather (script_reads known) ls)) ≤ 64) (append_assoc earlier (line ∷ []) more) (lines_few known names (earlier ++ line ∷ []) (number + 1) more (tail_good (script_fault known names) earlier number line more good) pushed)
