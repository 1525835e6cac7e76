-- The sections `[test NAME]`.
use Rattle.std.specs.Prelude.{ℕ, ◌+◌, Bool, true, false, not, ◌&&◌, ◌||◌, List, [], ◌∷◌, Option, None, Some, bytes_eq, codes, drop, slice_index_or, if◌then◌else◌}
use Rattle.project_lines.specs.declared.error.ProjectError.{ProjectError}
use Rattle.project_lines.specs.declared.error.ProjectError.TheVariants.{BadLine, UnknownKey, Repeated, UnsupportedCommand}
use Rattle.project_file.specs.declared.project.TestPlan.{TestPlan}
use Rattle.project_file.specs.declared.project.TestKind.{TestKind}
use Rattle.project_file.specs.declared.project.TestKind.TheVariants as kind
use Rattle.project_file.specs.declared.test_plan.TestKey.{TestKey}
use Rattle.project_file.specs.declared.test_plan.TestKey.TheVariants.{Run, Eq, Sim, Pass, Fail, Expect, MaxBatchSize}
use Rattle.project_lines.specs.Lines.{key_of, args_of, text_of, is_said, find_line, has_line}
use Rattle.project_lines.specs.Words.{is_name, is_among, are_all, is_one}
use Rattle.project_lines.specs.Numbers.{is_number}
use Rattle.project_lines.specs.Paths.{with_names, count_fault, gather}
use Rattle.project_file.specs.Values.{args_in}

unfoldable pub test_key : List ℕ → Option TestKey
test_key word =
    if bytes_eq word (codes "run") then Some Run else
    (if bytes_eq word (codes "eq") then Some Eq else
    (if bytes_eq word (codes "sim") then Some Sim else
    (if bytes_eq word (codes "pass") then Some Pass else
    (if bytes_eq word (codes "fail") then Some Fail else
    (if bytes_eq word (codes "expect") then Some Expect else
    (if bytes_eq word (codes "maxbatchsize") then Some MaxBatchSize else None))))))

-- a word of an eq test or of a sim test
unfoldable pub is_answer : List ℕ → Bool
is_answer word = bytes_eq word (codes "PASS") || (bytes_eq word (codes "FAIL") || (bytes_eq word (codes "HANG") || bytes_eq word (codes "UNKNOWN")))

-- a module's name and one or more files
abbrev pub is_sim_form : List (List ℕ) → Bool
is_sim_form (bench ∷ file ∷ more) = is_name bench
is_sim_form _ = false

abbrev pub is_none : List (List ℕ) → Bool
is_none [] = true
is_none _ = false

-- the words have the form of the key
unfoldable pub is_test_form : TestKey → List (List ℕ) → Bool
is_test_form Run args = true
is_test_form Eq args = is_none args
is_test_form Sim args = is_sim_form args
is_test_form Pass args = not (is_none args)
is_test_form Fail args = not (is_none args)
is_test_form Expect args = are_all is_answer args
is_test_form MaxBatchSize args = is_one is_number args

abbrev pub is_eq : List (List ℕ) → Bool
is_eq lines = has_line (codes "eq") lines

abbrev pub is_sim : List (List ℕ) → Bool
is_sim lines = has_line (codes "sim") lines

-- the lines expect this word
unfoldable pub expects : List ℕ → List (List ℕ) → Bool
expects word lines = is_among word (args_in (codes "expect") lines)

-- A key does not go with the lines before it: an eq test has no texts and never hangs, and a sim test is never unknown.
unfoldable pub is_clash : TestKey → List (List ℕ) → List (List ℕ) → Bool
is_clash Eq args earlier = has_line (codes "pass") earlier || (has_line (codes "fail") earlier || expects (codes "HANG") earlier)
is_clash Sim args earlier = expects (codes "UNKNOWN") earlier
is_clash Pass args earlier = is_eq earlier
is_clash Fail args earlier = is_eq earlier
is_clash Expect args earlier = (is_eq earlier && is_among (codes "HANG") args) || (is_sim earlier && is_among (codes "UNKNOWN") args)
is_clash _ args earlier = false

abbrev pub is_kind : TestKey → Bool
is_kind Eq = true
is_kind Sim = true
is_kind _ = false

-- the test has a kind already
abbrev pub has_kind : List (List ℕ) → Bool
has_kind lines = is_eq lines || is_sim lines

-- the files of a line of this key
abbrev pub files_by : Option TestKey → List (List ℕ) → List (List ℕ)
files_by (Some Sim) args = drop 1 args
files_by _ args = []

-- a line of a known key and of its form, where the files `names` are read before it
abbrev pub formed_fault : List (List ℕ) → TestKey → List (List ℕ) → ℕ → List ℕ → Option ProjectError
formed_fault names key earlier number line =
    if is_kind key && has_kind earlier then Some (Repeated number) else
    (if is_clash key (args_of line) earlier then Some (BadLine number) else
    (if has_line (key_of line) earlier then Some (Repeated number) else
    count_fault names number (files_by (Some key) (args_of line))))

abbrev pub known_test_fault : List (List ℕ) → TestKey → List (List ℕ) → ℕ → List ℕ → Option ProjectError
known_test_fault names Run earlier number line = Some (UnsupportedCommand number)
known_test_fault names key earlier number line =
    if is_test_form key (args_of line) then formed_fault names key earlier number line else Some (BadLine number)

abbrev pub test_key_fault : List (List ℕ) → Option TestKey → List (List ℕ) → ℕ → List ℕ → Option ProjectError
test_key_fault names None earlier number line = Some (UnknownKey number)
test_key_fault names (Some key) earlier number line = known_test_fault names key earlier number line

-- the files that a line reads
unfoldable pub test_reads : List ℕ → List (List ℕ)
test_reads line = if is_said line then files_by (test_key (key_of line)) (args_of line) else []

-- the same of a line
unfoldable pub test_at : List (List ℕ) → List (List ℕ) → ℕ → List ℕ → Option ProjectError
test_at names earlier number line = if is_said line then test_key_fault names (test_key (key_of line)) earlier number line else None

-- What is wrong with a line of a test behind these: `names` are the files that the sections before it read.
unfoldable pub test_fault : List (List ℕ) → List (List ℕ) → ℕ → List ℕ → Option ProjectError
test_fault names earlier number line = test_at (with_names names (gather test_reads earlier)) earlier number line

-- The plan of a test.

abbrev pub bit_if : Bool → ℕ → ℕ
bit_if true bit = bit
bit_if false bit = 0

-- PASS is 1, FAIL is 2, HANG is 4, UNKNOWN is 8
unfoldable pub mask_of : List (List ℕ) → ℕ
mask_of words = bit_if (is_among (codes "PASS") words) 1 + (bit_if (is_among (codes "FAIL") words) 2 + (bit_if (is_among (codes "HANG") words) 4 + bit_if (is_among (codes "UNKNOWN") words) 8))

-- the text behind a key, or none
unfoldable pub text_in : List ℕ → List (List ℕ) → List ℕ
text_in key lines = elim (find_line key lines) [ None ↦ [] | Some line ↦ text_of line ]

-- all words of the kind: PASS, FAIL and HANG of a sim test; PASS, FAIL and UNKNOWN of another one
abbrev pub all_words : Bool → ℕ
all_words true = 7
all_words false = 11

abbrev pub mask_by : Option (List ℕ) → Bool → ℕ
mask_by None is_sim = all_words is_sim
mask_by (Some line) is_sim = mask_of (args_of line)

-- the words that the lines expect, else all
unfoldable pub mask_in : List (List ℕ) → ℕ
mask_in lines = mask_by (find_line (codes "expect") lines) (is_sim lines)

abbrev pub kind_by : Option (List ℕ) → List (List ℕ) → TestKind
kind_by None lines = kind.Eq
kind_by (Some line) lines = kind.Sim (slice_index_or (args_of line) 0 []) (drop 1 (args_of line)) (text_in (codes "pass") lines) (text_in (codes "fail") lines)

unfoldable pub kind_in : List (List ℕ) → TestKind
kind_in lines = kind_by (find_line (codes "sim") lines) lines

-- the plan of the test of this name, with these lines
unfoldable pub plan_of : List ℕ → List (List ℕ) → TestPlan
plan_of name lines = record { name = name; kind = kind_in lines; expect = mask_in lines }
