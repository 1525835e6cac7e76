-- How many files a project reads in all.
use Rattle.project_limits.proofs.Common.{◌≡◌, ℕ, ◌+◌, ◌<◌, ◌≤◌, Bool, true, false, not, ◌&&◌, cond, if◌then◌else◌, List, [], ◌∷◌, ◌++◌, length, drop, map, find, filter, Option, None, Some, bytes_eq}
use Rattle.project_limits.proofs.Common.{codes, slice_index, ◌==◌, refl, sym, ap, subst, ◌∙◌, arith, append_assoc, append-nil, flat_map, bytes_eq-Decides, lines, ProjectError, BadLine, Repeated}
use Rattle.project_limits.proofs.Common.{Project, Title, Options, Script, Files, Logic, Report, Test, first_fault, args_of, behind_key, find_line, is_filled, is_said, key_of, count_fault, gather}
use Rattle.project_limits.proofs.Common.{with_names, Around, around_in, design_in, header_fault, lines_fault, part_fault, part_reads, project_of, reads_in, test_of, titled_fault, IsProject, first_top}
use Rattle.project_limits.proofs.Common.{script_fault, script_reads, Part, find_part, is_test, lines_in, name_in, parts_of, plain_title, tests_in, title_of, has_line, is_name}
use Rattle.project_file.specs.declared.project.TestPlan.{TestPlan}
use Rattle.project_file.specs.declared.test_plan.TestKey.{TestKey}
use Rattle.project_file.specs.declared.test_plan.TestKey.TheVariants.{Run, Eq, Sim, Pass, Fail, Expect, MaxBatchSize}
use Rattle.project_file.specs.Tests.{files_by, formed_fault, has_kind, is_clash, is_kind, is_test_form, kind_by, kind_in, known_test_fault, plan_of, test_at, test_fault, test_key, test_key_fault}
use Rattle.project_file.specs.Tests.{test_reads}
use Rattle.project_lines.proofs.Reading.{names_append, names_none, names_push}
use Rattle.project_limits.specs.Files.{all_files, kind_files}
use Rattle.project_limits.proofs.Headers.{header_good, header_of_word, lines_good, sections_good}
use Rattle.project_limits.proofs.Lines.{counted_few, head_good, line_few, tail_good}
use Rattle.project_limits.proofs.Names.{among_both, among_first, among_later, few_among, taken_among, AreAmong}

-- Lines that are good read few files beside those that are read before them.

-- a good line reads no file, or the files are few with those that it reads
abbrev ReadsFew : {X : Type 0} → (X → List (List ℕ)) → (List X → ℕ → X → Option ProjectError) → List (List ℕ) → Type 0
ReadsFew {X} reads fault names = (earlier : List X) (number : ℕ) (x : X) → fault earlier number x ≡ None → length (with_names names (gather reads earlier)) ≤ 64 → length (with_names names (gather reads (earlier ++ x ∷ []))) ≤ 64

all_few : {X : Type 0} (reads : X → List (List ℕ)) (fault : List X → ℕ → X → Option ProjectError) (names : List (List ℕ)) → ReadsFew reads fault names → (earlier : List X) (number : ℕ) (xs : List X) → first_fault fault earlier number xs ≡ None → length (with_names names (gather reads earlier)) ≤ 64 → length (with_names names (gather reads (earlier ++ xs))) ≤ 64
all_few reads fault names one earlier number [] good few = subst (λ (xs : List _). length (with_names names (gather reads xs)) ≤ 64) (sym (append-nil earlier)) few
all_few reads fault names one earlier number (x ∷ more) good few =
    subst (λ (xs : List _). length (with_names names (gather reads xs)) ≤ 64) (append_assoc earlier (x ∷ []) more)
    (all_few reads fault names one (earlier ++ x ∷ []) (number + 1) more (tail_good fault earlier number x more good) (one earlier number x (head_good fault earlier number x more good) few))

-- one more, which reads nothing or few
more_few : {X : Type 0} (reads : X → List (List ℕ)) (names : List (List ℕ)) (earlier : List X) (x : X) (read : List (List ℕ)) → read ≡ reads x → length (with_names names (gather reads earlier)) ≤ 64 → (0 < length read → length (with_names (with_names names (gather reads earlier)) (reads x)) ≤ 64) → length (with_names names (gather reads (earlier ++ x ∷ []))) ≤ 64
more_few reads names earlier x [] is few some =
    let none : with_names (with_names names (gather reads earlier)) (reads x) ≡ with_names names (gather reads earlier) = ap (with_names (with_names names (gather reads earlier))) (sym is) ∙ names_none (with_names names (gather reads earlier)) in
    subst (λ (ns : List (List ℕ)). length ns ≤ 64) (sym none ∙ names_push reads names earlier x) few
more_few reads names earlier x (r ∷ rs) is few some = subst (λ (ns : List (List ℕ)). length ns ≤ 64) (names_push reads names earlier x) (some (omega arith))

script_few : (around : Around) (names : List (List ℕ)) → ReadsFew (script_reads around.known) (script_fault around.known names) names
unfolding script_fault
script_few around names earlier number line good few =
    more_few (script_reads around.known) names earlier line (script_reads around.known line) refl few (λ some. line_few around.known (with_names names (gather (script_reads around.known) earlier)) (first_top earlier) number line good some)

-- a line of a test

counted_good : (kind clash again : Bool) (number : ℕ) (count : Option ProjectError) → (if kind then Some (Repeated number) else (if clash then Some (BadLine number) else (if again then Some (Repeated number) else count))) ≡ None → count ≡ None
counted_good true clash again number count good = cc
counted_good false true again number count good = cc
counted_good false false true number count good = cc
counted_good false false false number count good = good

formed_good : (b : Bool) (number : ℕ) (fault : Option ProjectError) → (if b then fault else Some (BadLine number)) ≡ None → fault ≡ None
formed_good true number fault good = good
formed_good false number fault good = cc

sim_few : (names earlier : List (List ℕ)) (number : ℕ) (line : List ℕ) → known_test_fault names Sim earlier number line ≡ None → (0 < length (files_by (Some Sim) (args_of line))) → length (with_names names (files_by (Some Sim) (args_of line))) ≤ 64
sim_few names earlier number line good some =
    let formed : formed_fault names Sim earlier number line ≡ None = formed_good (is_test_form Sim (args_of line)) number (formed_fault names Sim earlier number line) good in
    counted_few names number (files_by (Some Sim) (args_of line)) (counted_good (is_kind Sim && has_kind earlier) (is_clash Sim (args_of line) earlier) (has_line (key_of line) earlier) number (count_fault names number (files_by (Some Sim) (args_of line))) formed) some

key_few : (names earlier : List (List ℕ)) (number : ℕ) (key : Option TestKey) (line : List ℕ) → test_key_fault names key earlier number line ≡ None → (0 < length (files_by key (args_of line))) → length (with_names names (files_by key (args_of line))) ≤ 64
key_few names earlier number None line good some = absurd (omega (arith, some))
key_few names earlier number (Some Sim) line good some = sim_few names earlier number line good some
key_few names earlier number (Some Run) line good some = absurd (omega (arith, some))
key_few names earlier number (Some Eq) line good some = absurd (omega (arith, some))
key_few names earlier number (Some Pass) line good some = absurd (omega (arith, some))
key_few names earlier number (Some Fail) line good some = absurd (omega (arith, some))
key_few names earlier number (Some Expect) line good some = absurd (omega (arith, some))
key_few names earlier number (Some MaxBatchSize) line good some = absurd (omega (arith, some))

said_few : (b : Bool) (names earlier : List (List ℕ)) (number : ℕ) (key : Option TestKey) (line : List ℕ) → (if b then test_key_fault names key earlier number line else None) ≡ None → (0 < length (if b then files_by key (args_of line) else [])) → length (with_names names (if b then files_by key (args_of line) else [])) ≤ 64
said_few true names earlier number key line good some = key_few names earlier number key line good some
said_few false names earlier number key line good some = absurd (omega (arith, some))

test_line_few : (names earlier : List (List ℕ)) (number : ℕ) (line : List ℕ) → test_at names earlier number line ≡ None → (0 < length (test_reads line)) → length (with_names names (test_reads line)) ≤ 64
unfolding test_at test_reads
test_line_few names earlier number line good some = said_few (is_said line) names earlier number (test_key (key_of line)) line good some

test_few : (names : List (List ℕ)) → ReadsFew test_reads (test_fault names) names
unfolding test_fault
test_few names earlier number line good few =
    more_few test_reads names earlier line (test_reads line) refl few (λ some. test_line_few (with_names names (gather test_reads earlier)) earlier number line good some)

-- Sections that are good read few files.

nothing_read : (names : List (List ℕ)) → length names ≤ 64 → length (with_names names []) ≤ 64
nothing_read names few = subst (λ (ns : List (List ℕ)). length ns ≤ 64) (sym (names_none names)) few

nothing_gathered : {X : Type 0} (reads : X → List (List ℕ)) (names : List (List ℕ)) → length names ≤ 64 → length (with_names names (gather reads [])) ≤ 64
unfolding gather
nothing_gathered reads names few = nothing_read names few

titled_few : (around : Around) (names : List (List ℕ)) (title : Option Title) (number : ℕ) (lines : List (List ℕ)) → lines_fault around names title number lines ≡ None → length names ≤ 64 → length (with_names names (reads_in around.known title lines)) ≤ 64
titled_few around names (Some Script) number lines good few = all_few (script_reads around.known) (script_fault around.known names) names (script_few around names) [] number lines good (nothing_gathered (script_reads around.known) names few)
titled_few around names (Some Test) number lines good few = all_few test_reads (test_fault names) names (test_few names) [] number lines good (nothing_gathered test_reads names few)
titled_few around names None number lines good few = nothing_read names few
titled_few around names (Some Options) number lines good few = nothing_read names few
titled_few around names (Some Files) number lines good few = nothing_read names few
titled_few around names (Some Logic) number lines good few = nothing_read names few
titled_few around names (Some Report) number lines good few = nothing_read names few

part_read_few : (around : Around) (names : List (List ℕ)) (part : Part) (number : ℕ) → lines_fault around names (title_of part.header) number part.lines ≡ None → length names ≤ 64 → length (with_names names (part_reads around.known part)) ≤ 64
unfolding part_reads
part_read_few around names part number good few = titled_few around names (title_of part.header) number part.lines good few

parts_few : (around : Around) → ReadsFew (part_reads around.known) (part_fault around) []
parts_few around earlier number part good few =
    subst (λ (ns : List (List ℕ)). length ns ≤ 64) (names_push (part_reads around.known) [] earlier part)
    (part_read_few around (with_names [] (gather (part_reads around.known) earlier)) part (part.number + 1) (lines_good around earlier number part good) few)

-- the files of all sections
all_read_few : (around : Around) (parts : List Part) → first_fault (part_fault around) [] 0 parts ≡ None → length (with_names [] (gather (part_reads around.known) parts)) ≤ 64
all_read_few around parts good = all_few (part_reads around.known) (part_fault around) [] (parts_few around) [] 0 parts good (nothing_gathered (part_reads around.known) [] (omega arith))

-- The files of the design and those of the tests are among them.

gathered_first : {X : Type 0} (reads : X → List (List ℕ)) (x : X) (more : List X) (names : List (List ℕ)) → AreAmong (gather reads (x ∷ more)) names → AreAmong (reads x) names × AreAmong (gather reads more) names
unfolding gather
gathered_first reads x more names are = (among_first (reads x) (gather reads more) names are, among_later (reads x) (gather reads more) names are)

none_gathered : {X : Type 0} (reads : X → List (List ℕ)) (names : List (List ℕ)) → AreAmong (gather reads []) names
unfolding gather
none_gathered reads names = tt

abbrev is_script : Part → Bool
is_script part = bytes_eq (key_of part.header) (codes "script")

-- a good section of a script reads what its lines read
script_part : (around : Around) (earlier : List Part) (number : ℕ) (part : Part) → is_script part ≡ true → part_fault around earlier number part ≡ None → part_reads around.known part ≡ gather (script_reads around.known) part.lines
unfolding part_reads
script_part around earlier number part is good =
    let key : key_of part.header ≡ codes "script" = (bytes_eq-Decides (key_of part.header) (codes "script")).0 is in
    ap (λ (title : Option Title). reads_in around.known title part.lines) (header_of_word (codes "script") earlier part.number part.header key refl (header_good around earlier number part good))

script_found : (around : Around) (names : List (List ℕ)) (b : Bool) (part : Part) (found : Option Part) → (b ≡ true → AreAmong (gather (script_reads around.known) part.lines) names) → AreAmong (gather (script_reads around.known) (elim found [ None ↦ [] | Some part ↦ part.lines ])) names → AreAmong (gather (script_reads around.known) (elim (cond b (Some part) found) [ None ↦ [] | Some part ↦ part.lines ])) names
script_found around names true part found here later = here refl
script_found around names false part found here later = later

scripts_among : (around : Around) (names : List (List ℕ)) (earlier : List Part) (number : ℕ) (parts : List Part) → first_fault (part_fault around) earlier number parts ≡ None → AreAmong (gather (part_reads around.known) parts) names → AreAmong (gather (script_reads around.known) (elim (find is_script parts) [ None ↦ [] | Some part ↦ part.lines ])) names
scripts_among around names earlier number [] good are = none_gathered (script_reads around.known) names
scripts_among around names earlier number (part ∷ more) good are =
    let both = gathered_first (part_reads around.known) part more names are in
    script_found around names (is_script part) part (find is_script more) (λ is. subst (λ (read : List (List ℕ)). AreAmong read names) (script_part around earlier number part is (head_good (part_fault around) earlier number part more good)) both.0)
    (scripts_among around names (earlier ++ part ∷ []) (number + 1) more (tail_good (part_fault around) earlier number part more good) both.1)

design_among : (around : Around) (names : List (List ℕ)) (parts : List Part) → around ≡ around_in parts → first_fault (part_fault around) [] 0 parts ≡ None → AreAmong (gather (part_reads around.known) parts) names → AreAmong (design_in parts) names
unfolding design_in lines_in find_part
design_among around names parts is good are = subst (λ (a : Around). AreAmong (gather (script_reads a.known) (elim (find is_script parts) [ None ↦ [] | Some part ↦ part.lines ])) names) is (scripts_among around names [] 0 parts good are)

-- tests

-- a good header whose first word is `test` has the title of a test
test_title : (a b t c : Bool) (plain : Option Title) (earlier : List Part) (number : ℕ) (header : List ℕ) → t ≡ true → plain ≡ None → titled_fault (if a then None else (if b then (if t && c then Some Test else None) else plain)) earlier number header ≡ None → (if a then None else (if b then (if t && c then Some Test else None) else plain)) ≡ Some Test
test_title true b t c plain earlier number header is none good = cc
test_title false true true true plain earlier number header is none good = refl
test_title false true true false plain earlier number header is none good = cc
test_title false true false c plain earlier number header is none good = cc
test_title false false t c plain earlier number header is none good =
    let bad : titled_fault None earlier number header ≡ None = subst (λ (title : Option Title). titled_fault title earlier number header ≡ None) none good in cc

test_header : (earlier : List Part) (number : ℕ) (header : List ℕ) → key_of header ≡ codes "test" → header_fault earlier number header ≡ None → title_of header ≡ Some Test
unfolding header_fault title_of
test_header earlier number header is good =
    test_title (is_filled (key_of (behind_key (behind_key header)))) (is_filled (name_in header)) (bytes_eq (key_of header) (codes "test")) (is_name (name_in header)) (plain_title (key_of header)) earlier number header (ap (λ key. bytes_eq key (codes "test")) is) (ap plain_title is) good

test_part : (around : Around) (earlier : List Part) (number : ℕ) (part : Part) → is_test part ≡ true → part_fault around earlier number part ≡ None → part_reads around.known part ≡ gather test_reads part.lines
unfolding part_reads is_test
test_part around earlier number part is good =
    let key : key_of part.header ≡ codes "test" = (bytes_eq-Decides (key_of part.header) (codes "test")).0 is in
    ap (λ (title : Option Title). reads_in around.known title part.lines) (test_header earlier part.number part.header key (header_good around earlier number part good))

-- a line of the key `sim` reads its files
sim_line : (line : List ℕ) → bytes_eq (key_of line) (codes "sim") ≡ true → test_reads line ≡ drop 1 (args_of line)
unfolding test_reads is_said test_key
sim_line line is =
    let key : key_of line ≡ codes "sim" = (bytes_eq-Decides (key_of line) (codes "sim")).0 is in
    ap (λ (key : List ℕ). if is_filled key && not (slice_index key 0 == 35) then files_by (test_key key) (args_of line) else []) key

-- the files of the first of them
sim_found : (names : List (List ℕ)) (b : Bool) (line : List ℕ) (found : Option (List ℕ)) (all : List (List ℕ)) → (b ≡ true → AreAmong (drop 1 (args_of line)) names) → AreAmong (kind_files (kind_by found all)) names → AreAmong (kind_files (kind_by (cond b (Some line) found) all)) names
sim_found names true line found all here later = here refl
sim_found names false line found all here later = later

sims_among : (names : List (List ℕ)) (lines all : List (List ℕ)) → AreAmong (gather test_reads lines) names → AreAmong (kind_files (kind_by (find (λ line. bytes_eq (key_of line) (codes "sim")) lines) all)) names
sims_among names [] all are = tt
sims_among names (line ∷ more) all are =
    let both = gathered_first test_reads line more names are in
    sim_found names (bytes_eq (key_of line) (codes "sim")) line (find (λ line. bytes_eq (key_of line) (codes "sim")) more) all (λ is. subst (λ (read : List (List ℕ)). AreAmong read names) (sim_line line is) both.0) (sims_among names more all both.1)

plan_among : (names : List (List ℕ)) (part : Part) → AreAmong (gather test_reads part.lines) names → AreAmong (kind_files (test_of part).kind) names
unfolding plan_of kind_in find_line
plan_among names part are = sims_among names part.lines part.lines are

abbrev files_of_plan : TestPlan → List (List ℕ)
files_of_plan test = kind_files test.kind

one_test : (names : List (List ℕ)) (b : Bool) (part : Part) (rest : List Part) → (b ≡ true → AreAmong (kind_files (test_of part).kind) names) → AreAmong (flat_map files_of_plan (map test_of rest)) names → AreAmong (flat_map files_of_plan (map test_of (cond b (part ∷ rest) rest))) names
one_test names true part rest here later = among_both (kind_files (test_of part).kind) (flat_map files_of_plan (map test_of rest)) names (here refl) later
one_test names false part rest here later = later

tests_among : (around : Around) (names : List (List ℕ)) (earlier : List Part) (number : ℕ) (parts : List Part) → first_fault (part_fault around) earlier number parts ≡ None → AreAmong (gather (part_reads around.known) parts) names → AreAmong (flat_map files_of_plan (map test_of (filter is_test parts))) names
tests_among around names earlier number [] good are = tt
tests_among around names earlier number (part ∷ more) good are =
    let both = gathered_first (part_reads around.known) part more names are in
    one_test names (is_test part) part (filter is_test more) (λ is. plan_among names part (subst (λ (read : List (List ℕ)). AreAmong read names) (test_part around earlier number part is (head_good (part_fault around) earlier number part more good)) both.0))
    (tests_among around names (earlier ++ part ∷ []) (number + 1) more (tail_good (part_fault around) earlier number part more good) both.1)

-- So they are few.

files_of : (parts : List Part) → first_fault (part_fault (around_in parts)) [] 0 parts ≡ None → length (all_files (project_of parts)) ≤ 64
unfolding project_of tests_in
files_of parts good =
    let around : Around = around_in parts in
    let names : List (List ℕ) = with_names [] (gather (part_reads around.known) parts) in
    let among : AreAmong (gather (part_reads around.known) parts) names = taken_among [] (gather (part_reads around.known) parts) in
    let tests : List (List ℕ) = flat_map files_of_plan (map test_of (filter is_test parts)) in
    let both : AreAmong (design_in parts ++ tests) names = among_both (design_in parts) tests names (design_among around names parts refl good among) (tests_among around names [] 0 parts good among) in
    let few : length (with_names [] (design_in parts ++ tests)) ≤ length names = few_among (design_in parts ++ tests) names both in
    subst (λ (ns : List (List ℕ)). length ns ≤ 64) (names_append [] (design_in parts) tests) (omega (arith, few, all_read_few around parts good))

pub sources_few : (bytes : List ℕ) (project : Project) → IsProject bytes project → length (all_files project) ≤ 64
sources_few bytes project is = subst (λ (p : Project). length (all_files p) ≤ 64) (sym is.says) (files_of (parts_of 1 (lines bytes)) (sections_good (lines bytes) is.faultless))
