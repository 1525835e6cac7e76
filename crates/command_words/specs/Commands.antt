-- What the words after the program's name ask for: a command, and the mutations that a run is to look at.
use Rattle.std.specs.Prelude.{ℕ, Bool, ◌&&◌, ◌||◌, List, [], ◌∷◌, length, drop, Option, None, Some, if◌then◌else◌, bytes_eq, codes, ◌==◌, ◌^◌, map, nat_eq, nat_le, nat_lt, option_and_then, option_map, true, false, unwrap_or}
use Rattle.std.specs.Char.{is_ascii_digit}
use Rattle.std.specs.List.{list_all, slice_split, starts_with}
use Rattle.std.specs.Str.Parse.{digits_value}
use Rattle.result_book.specs.Rounds.{is_limit}
use Rattle.command_words.specs.declared.command.Command.{Command}
use Rattle.command_words.specs.declared.command.Command.TheVariants.{Init, Run, List as Listing, Status, Source, Baseline, Demo}
use Rattle.command_words.specs.declared.asked.Asked.{Asked}

-- the word is one to ten decimal digits
abbrev pub is_numeral : List ℕ → Bool
is_numeral word = list_all is_ascii_digit word && (nat_le 1 (length word) && nat_le (length word) 10)

-- a run may have this number of tests under way at once
abbrev pub is_jobs : ℕ → Bool
is_jobs number = nat_le 1 number && nat_le number 64

-- a run may be told to stop after this number of tests
abbrev pub is_stop : ℕ → Bool
is_stop number = nat_le 1 number && nat_le number 1000000

-- a made project may have this number of cells
abbrev pub is_cells : ℕ → Bool
is_cells number = nat_le 1 number && nat_le number 400

-- a mutation may have this number, as the list counts them, from 1
abbrev pub is_mutation : ℕ → Bool
is_mutation number = nat_le 1 number && nat_le number 10000

-- the number that the word says, if it is one of these
abbrev pub number_in : (ℕ → Bool) → List ℕ → Option ℕ
number_in is_one word = if is_numeral word && is_one (digits_value 10 word) then Some (digits_value 10 word) else None

-- the number of tests that a run may have under way, the number after which it is told to stop, and the limit under which given-up
-- tests are asked again
abbrev pub jobs_number : List ℕ → Option ℕ
jobs_number word = number_in is_jobs word

abbrev pub stop_number : List ℕ → Option ℕ
stop_number word = number_in is_stop word

abbrev pub retry_limit : List ℕ → Option ℕ
retry_limit word = number_in is_limit word

-- what each of these says, where none says nothing
abbrev pub all_said : {X : Type 0} → List (Option X) → Option (List X)
all_said [] = Some []
all_said (None ∷ more) = None
all_said (Some x ∷ more) = option_map (λ xs. x ∷ xs) (all_said more)

abbrev pub mutation_number : List ℕ → Option ℕ
mutation_number word = number_in is_mutation word

-- the numbers of mutations that a word says: each behind the last one with a comma (44) between them
abbrev pub mutation_numbers : List ℕ → Option (List ℕ)
mutation_numbers word = all_said (map mutation_number (slice_split (λ byte. byte == 44) word))

-- the number from which a project is made, and the number of its cells
abbrev pub seed_number : List ℕ → Option ℕ
seed_number word = if is_numeral word then Some (digits_value 10 word) else None

abbrev pub cells_number : List ℕ → Option ℕ
cells_number word = number_in is_cells word

-- what the options of `run` say so far
pub record Options : Type 0 where
  pub jobs : Option ℕ
  pub stop_after : Option ℕ
  pub retry : Option ℕ
  pub mutations : Option (List ℕ)

abbrev pub no_options : Options
no_options = record { jobs = None; stop_after = None; retry = None; mutations = None }

-- an option that stands at most once, with what its value says
abbrev pub once : {N X : Type 0} → Option N → Option N → (N → X) → Option X
once (Some before) said next = None
once None None next = None
once None (Some said) next = Some (next said)

abbrev pub jobs_with : Options → List ℕ → Option Options
jobs_with options word = once options.jobs (jobs_number word) (λ number. record options { jobs = Some number })

abbrev pub stop_with : Options → List ℕ → Option Options
stop_with options word = once options.stop_after (stop_number word) (λ number. record options { stop_after = Some number })

abbrev pub retry_with : Options → List ℕ → Option Options
retry_with options word = once options.retry (retry_limit word) (λ limit. record options { retry = Some limit })

abbrev pub mutations_with : Options → List ℕ → Option Options
mutations_with options word = once options.mutations (mutation_numbers word) (λ numbers. record options { mutations = Some numbers })

abbrev pub is_jobs_name : List ℕ → Bool
is_jobs_name word = bytes_eq word (codes "-j")

abbrev pub is_stop_name : List ℕ → Bool
is_stop_name word = bytes_eq word (codes "--stop-after")

abbrev pub is_retry_name : List ℕ → Bool
is_retry_name word = bytes_eq word (codes "--retry")

abbrev pub is_mutations_name : List ℕ → Bool
is_mutations_name word = bytes_eq word (codes "--mutations")

-- the value that is joined to `-j`, with a `=` before it or without
abbrev pub short_value : List ℕ → List ℕ
short_value value = if starts_with nat_eq value (codes "=") then drop 1 value else value

-- one more option, `-jN`, `-j=N`, `--stop-after=N`, `--retry=N` or `--mutations=N,N`
abbrev pub joined : Options → List ℕ → Option Options
joined options word =
    if starts_with nat_eq word (codes "-j") then jobs_with options (short_value (drop (length (codes "-j")) word))
    else if starts_with nat_eq word (codes "--stop-after=") then stop_with options (drop (length (codes "--stop-after=")) word)
    else if starts_with nat_eq word (codes "--retry=") then retry_with options (drop (length (codes "--retry=")) word)
    else if starts_with nat_eq word (codes "--mutations=") then mutations_with options (drop (length (codes "--mutations=")) word)
    else None

-- one more option, `-j N`, `--stop-after N`, `--retry N` or `--mutations N,N`
abbrev pub parted : Options → List ℕ → List ℕ → Option Options
parted options name value =
    if is_jobs_name name then jobs_with options value
    else if is_stop_name name then stop_with options value
    else if is_retry_name name then retry_with options value
    else mutations_with options value

-- its value is the word behind it
abbrev pub is_parted : List ℕ → Bool
is_parted word = is_jobs_name word || is_stop_name word || is_retry_name word || is_mutations_name word

-- the options that the words behind `run` give, in any order and each at most once
abbrev pub options_of : Options → List (List ℕ) → Option Options
options_of options [] = Some options
options_of options (word ∷ []) = joined options word
options_of options (word ∷ value ∷ more) =
    if is_parted word
    then option_and_then (λ next. options_of next more) (parted options word value)
    else option_and_then (λ next. options_of next (value ∷ more)) (joined options word)

-- a command that looks at no mutations of its own
abbrev pub plainly : Command → Asked
plainly command = record { command = command; mutations = [] }

abbrev pub run_of : Options → Asked
run_of options = record { command = Run (unwrap_or options.jobs 1) options.stop_after options.retry; mutations = unwrap_or options.mutations [] }

abbrev pub run_with : Option Options → Option Asked
run_with None = None
run_with (Some options) = Some (run_of options)

-- `demo` with both its numbers
abbrev pub demo_with : Option ℕ → Option ℕ → Option Asked
demo_with None cells = None
demo_with (Some seed) None = None
demo_with (Some seed) (Some cells) = Some (plainly (Demo seed cells))

-- by the words behind it, which are two
abbrev pub demo_of : List (List ℕ) → Option Asked
demo_of [] = None
demo_of (seed ∷ []) = None
demo_of (seed ∷ cells ∷ []) = demo_with (seed_number seed) (cells_number cells)
demo_of (seed ∷ cells ∷ word ∷ words) = None

-- `status` by the words behind it: none, or `--strict`
abbrev pub status_of : List (List ℕ) → Option Asked
status_of [] = Some (plainly (Status false))
status_of (word ∷ []) = if bytes_eq word (codes "--strict") then Some (plainly (Status true)) else None
status_of (word ∷ next ∷ words) = None

-- `init`, `list`, `source` or `baseline`
abbrev pub one_word : List ℕ → Option Asked
one_word word =
    if bytes_eq word (codes "init") then Some (plainly Init)
    else if bytes_eq word (codes "list") then Some (plainly Listing)
    else if bytes_eq word (codes "source") then Some (plainly Source)
    else if bytes_eq word (codes "baseline") then Some (plainly Baseline)
    else None

-- such a word alone
abbrev pub alone : List ℕ → List (List ℕ) → Option Asked
alone word [] = one_word word
alone word (next ∷ more) = None

-- what the words ask for
abbrev pub asked_of : List (List ℕ) → Option Asked
asked_of [] = None
asked_of (word ∷ words) =
    if bytes_eq word (codes "run") then run_with (options_of no_options words)
    else if bytes_eq word (codes "status") then status_of words
    else if bytes_eq word (codes "demo") then demo_of words
    else alone word words

-- the command among it, and the mutations that a run is to look at, which are all where none is named
abbrev pub command_of : List (List ℕ) → Option Command
command_of words = option_map (λ (asked : Asked). asked.command) (asked_of words)

abbrev pub mutations_of : List (List ℕ) → List ℕ
mutations_of words = elim (asked_of words) [ None ↦ [] | Some asked ↦ asked.mutations ]

-- For proofs alone.

-- the number that such a word says, if it is below 2 ^ 32
abbrev pub small_number : List ℕ → Option ℕ
small_number word = if is_numeral word && nat_lt (digits_value 10 word) (2 ^ 32) then Some (digits_value 10 word) else None
