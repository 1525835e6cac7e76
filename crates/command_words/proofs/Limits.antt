-- The numbers that the words give: the limit of a retry is one, there are 1 to 64 slots, and a made project has 1 to 400 cells.
use Rattle.command_words.proofs.Common.{◌≡◌, ◌≤◌, ◌<◌, ◌^◌, ◌&&◌, ℕ, Bool, cond, true, false, refl, subst, List, [], ◌∷◌, Option, Some, None, arith, codes, drop, length, nat_eq, option_map, IsTrue}
use Rattle.command_words.proofs.Common.{bytes_eq, nat_le, option_and_then, unwrap_or, starts_with, digits_value, and_parts, leb-true, Asked, Init, Run, Listing, Status, Source, Baseline, Demo}
use Rattle.command_words.proofs.Common.{Options, alone, cells_number, command_of, demo_of, demo_with, is_cells, is_jobs, is_jobs_name, is_numeral, is_parted, is_retry_name, is_stop_name, jobs_number}
use Rattle.command_words.proofs.Common.{jobs_with, joined, mutation_numbers, mutations_with, no_options, once, options_of, parted, plainly, retry_limit, retry_with, run_with, seed_number, short_value}
use Rattle.command_words.proofs.Common.{status_of, stop_number, stop_with, same_Some}
use Rattle.result_book.specs.Rounds.{is_limit}
use Rattle.command_words.specs.declared.command.Command.{Command}
use Rattle.command_words.proofs.Numerals.{numeral_small}

-- the limit of a retry, where there is one, is one
abbrev pub IsLimit : Option ℕ → Type 0
IsLimit None = Unit {0}
IsLimit (Some limit) = IsTrue (is_limit limit)

-- and so is the number of slots
abbrev pub AreJobs : ℕ → Type 0
AreJobs jobs = (1 ≤ jobs) × (jobs ≤ 64)

abbrev pub HasJobs : Option ℕ → Type 0
HasJobs None = Unit {0}
HasJobs (Some jobs) = AreJobs jobs

pub record IsFine (options : Options) : Type 0 where
  pub jobs : HasJobs options.jobs
  pub retry : IsLimit options.retry

limit_fine : (word : List ℕ) → IsLimit (retry_limit word)
limit_fine word = go (is_numeral word && is_limit (digits_value 10 word)) refl
  where
    go : (b : Bool) → (is_numeral word && is_limit (digits_value 10 word)) ≡ b → IsLimit (cond b (Some (digits_value 10 word)) None)
    go true e = (and_parts (is_numeral word) (is_limit (digits_value 10 word)) e).1
    go false e = tt

are_jobs : (jobs : ℕ) → IsTrue (is_jobs jobs) → AreJobs jobs
are_jobs jobs e = let both = and_parts (nat_le 1 jobs) (nat_le jobs 64) e in (leb-true 1 jobs both.0, leb-true jobs 64 both.1)

number_fine : (word : List ℕ) → HasJobs (jobs_number word)
number_fine word = go (is_numeral word && is_jobs (digits_value 10 word)) refl
  where
    go : (b : Bool) → (is_numeral word && is_jobs (digits_value 10 word)) ≡ b → HasJobs (cond b (Some (digits_value 10 word)) None)
    go true e = are_jobs (digits_value 10 word) (and_parts (is_numeral word) (is_jobs (digits_value 10 word)) e).1
    go false e = tt

-- an option more keeps them so

-- what an option of its own number makes of options
once_fine : {N : Type 0} (before said : Option N) (next : Options) (make : N → Options) → ((n : N) → said ≡ Some n → IsFine (make n)) → once before said make ≡ Some next → IsFine next
once_fine (Some n) said next make each e = absurd (let never : None ≡ Some next = e in cc)
once_fine None None next make each e = absurd (let never : None ≡ Some next = e in cc)
once_fine None (Some n) next make each e = subst IsFine (same_Some (make n) next e) (each n refl)

jobs_fine : (options next : Options) (word : List ℕ) → IsFine options → jobs_with options word ≡ Some next → IsFine next
jobs_fine options next word fine is = once_fine options.jobs (jobs_number word) next (λ n. record options { jobs = Some n }) (λ n e. record { jobs = subst HasJobs e (number_fine word); retry = fine.retry }) is

stop_fine : (options next : Options) (word : List ℕ) → IsFine options → stop_with options word ≡ Some next → IsFine next
stop_fine options next word fine is = once_fine options.stop_after (stop_number word) next (λ n. record options { stop_after = Some n }) (λ n e. record { jobs = fine.jobs; retry = fine.retry }) is

retry_fine : (options next : Options) (word : List ℕ) → IsFine options → retry_with options word ≡ Some next → IsFine next
retry_fine options next word fine is = once_fine options.retry (retry_limit word) next (λ l. record options { retry = Some l }) (λ l e. record { jobs = fine.jobs; retry = subst IsLimit e (limit_fine word) }) is

mutations_fine : (options next : Options) (word : List ℕ) → IsFine options → mutations_with options word ≡ Some next → IsFine next
mutations_fine options next word fine is = once_fine options.mutations (mutation_numbers word) next (λ n. record options { mutations = Some n }) (λ n e. record { jobs = fine.jobs; retry = fine.retry }) is

joined_fine : (options next : Options) (word : List ℕ) → IsFine options → joined options word ≡ Some next → IsFine next
joined_fine options next word fine is = go (starts_with nat_eq word (codes "-j")) (starts_with nat_eq word (codes "--stop-after=")) (starts_with nat_eq word (codes "--retry=")) (starts_with nat_eq word (codes "--mutations=")) is
  where
    go : (a b c d : Bool) → cond a (jobs_with options (short_value (drop (length (codes "-j")) word))) (cond b (stop_with options (drop (length (codes "--stop-after=")) word))
        (cond c (retry_with options (drop (length (codes "--retry=")) word)) (cond d (mutations_with options (drop (length (codes "--mutations=")) word)) None))) ≡ Some next → IsFine next
    go true b c d e = jobs_fine options next (short_value (drop (length (codes "-j")) word)) fine e
    go false true c d e = stop_fine options next (drop (length (codes "--stop-after=")) word) fine e
    go false false true d e = retry_fine options next (drop (length (codes "--retry=")) word) fine e
    go false false false true e = mutations_fine options next (drop (length (codes "--mutations=")) word) fine e
    go false false false false e = absurd (let never : None ≡ Some next = e in cc)

parted_fine : (options next : Options) (name value : List ℕ) → IsFine options → parted options name value ≡ Some next → IsFine next
parted_fine options next name value fine is = go (is_jobs_name name) (is_stop_name name) (is_retry_name name) is
  where
    go : (a b c : Bool) → cond a (jobs_with options value) (cond b (stop_with options value) (cond c (retry_with options value) (mutations_with options value))) ≡ Some next → IsFine next
    go true b c e = jobs_fine options next value fine e
    go false true c e = stop_fine options next value fine e
    go false false true e = retry_fine options next value fine e
    go false false false e = mutations_fine options next value fine e

-- these words keep the options fine
abbrev IsKept : Options → List (List ℕ) → Type 0
IsKept last words = (next : Options) → IsFine next → options_of next words ≡ Some last → IsFine last

options_fine : (options last : Options) (words : List (List ℕ)) → IsFine options → options_of options words ≡ Some last → IsFine last
options_fine options last [] fine is = subst IsFine (same_Some options last is) fine
options_fine options last (word ∷ []) fine is = joined_fine options last word fine is
options_fine options last (word ∷ value ∷ more) fine is =
    go (λ next h. options_fine next last more h) (λ next h. options_fine next last (value ∷ more) h) (is_parted word) is
  where
    first : IsKept last more → (o : Option Options) → ((next : Options) → o ≡ Some next → IsFine next) → option_and_then (λ next. options_of next more) o ≡ Some last → IsFine last
    first kept None each e = absurd (let never : None ≡ Some last = e in cc)
    first kept (Some next) each e = kept next (each next refl) e

    second : IsKept last (value ∷ more) → (o : Option Options) → ((next : Options) → o ≡ Some next → IsFine next) → option_and_then (λ next. options_of next (value ∷ more)) o ≡ Some last → IsFine last
    second kept None each e = absurd (let never : None ≡ Some last = e in cc)
    second kept (Some next) each e = kept next (each next refl) e

    go : IsKept last more → IsKept last (value ∷ more) → (b : Bool) → cond b (option_and_then (λ next. options_of next more) (parted options word value)) (option_and_then (λ next. options_of next (value ∷ more)) (joined options word)) ≡ Some last → IsFine last
    go one two true e = first one (parted options word value) (λ next h. parted_fine options next word value fine h) e
    go one two false e = second two (joined options word) (λ next h. joined_fine options next word fine h) e

-- ---- the numbers of a made project

abbrev pub AreCells : ℕ → Type 0
AreCells cells = (1 ≤ cells) × (cells ≤ 400)

abbrev IsSeed : Option ℕ → Type 0
IsSeed None = Unit {0}
IsSeed (Some seed) = seed < 2 ^ 64

abbrev HasCells : Option ℕ → Type 0
HasCells None = Unit {0}
HasCells (Some cells) = AreCells cells

seed_fine : (word : List ℕ) → IsSeed (seed_number word)
seed_fine word = go (is_numeral word) refl
  where
    go : (b : Bool) → is_numeral word ≡ b → IsSeed (cond b (Some (digits_value 10 word)) None)
    go true e = numeral_small word e
    go false e = tt

are_cells : (cells : ℕ) → IsTrue (is_cells cells) → AreCells cells
are_cells cells e = let both = and_parts (nat_le 1 cells) (nat_le cells 400) e in (leb-true 1 cells both.0, leb-true cells 400 both.1)

cells_fine : (word : List ℕ) → HasCells (cells_number word)
cells_fine word = go (is_numeral word && is_cells (digits_value 10 word)) refl
  where
    go : (b : Bool) → (is_numeral word && is_cells (digits_value 10 word)) ≡ b → HasCells (cond b (Some (digits_value 10 word)) None)
    go true e = are_cells (digits_value 10 word) (and_parts (is_numeral word) (is_cells (digits_value 10 word)) e).1
    go false e = tt

-- ---- a command

-- one with numbers has such numbers
abbrev IsFineCommand : Option Command → Type 0
IsFineCommand (Some (Run jobs stop retry)) = AreJobs jobs × IsLimit retry
IsFineCommand (Some (Demo seed cells)) = (seed < 2 ^ 64) × AreCells cells
IsFineCommand command = Unit {0}

-- the command of what is asked for
abbrev command_in : Option Asked → Option Command
command_in asked = option_map (λ (asked : Asked). asked.command) asked

-- one slot where no number is given
jobs_or_one : (jobs : Option ℕ) → HasJobs jobs → AreJobs (unwrap_or jobs 1)
jobs_or_one None has = (omega arith, omega arith)
jobs_or_one (Some jobs) has = has

no_options_fine : IsFine no_options
no_options_fine = record { jobs = tt; retry = tt }

word_fine : (word : List ℕ) (rest : List (List ℕ)) → IsFineCommand (command_in (alone word rest))
word_fine word (x ∷ rest) = tt
word_fine word [] = go (bytes_eq word (codes "init")) (bytes_eq word (codes "list")) (bytes_eq word (codes "source")) (bytes_eq word (codes "baseline"))
  where
    go : (a b c d : Bool) → IsFineCommand (command_in (cond a (Some (plainly Init)) (cond b (Some (plainly Listing)) (cond c (Some (plainly Source)) (cond d (Some (plainly Baseline)) None)))))
    go true b c d = tt
    go false true c d = tt
    go false false true d = tt
    go false false false true = tt
    go false false false false = tt

status_fine : (words : List (List ℕ)) → IsFineCommand (command_in (status_of words))
status_fine [] = tt
status_fine (word ∷ next ∷ words) = tt
status_fine (word ∷ []) = go (bytes_eq word (codes "--strict"))
  where
    go : (b : Bool) → IsFineCommand (command_in (cond b (Some (plainly (Status true))) None))
    go true = tt
    go false = tt

numbers_fine : (seed cells : Option ℕ) → IsSeed seed → HasCells cells → IsFineCommand (command_in (demo_with seed cells))
numbers_fine None cells fine few = tt
numbers_fine (Some seed) None fine few = tt
numbers_fine (Some seed) (Some cells) fine few = (fine, few)

demo_fine : (words : List (List ℕ)) → IsFineCommand (command_in (demo_of words))
demo_fine [] = tt
demo_fine (seed ∷ []) = tt
demo_fine (seed ∷ cells ∷ []) = numbers_fine (seed_number seed) (cells_number cells) (seed_fine seed) (cells_fine cells)
demo_fine (seed ∷ cells ∷ word ∷ words) = tt

pub command_fine : (words : List (List ℕ)) → IsFineCommand (command_of words)
command_fine [] = tt
command_fine (word ∷ words) = go (bytes_eq word (codes "run")) (bytes_eq word (codes "status")) (bytes_eq word (codes "demo"))
  where
    of_options : (o : Option Options) → options_of no_options words ≡ o → IsFineCommand (command_in (run_with o))
    of_options None e = tt
    of_options (Some options) e = let fine = options_fine no_options options words no_options_fine e in (jobs_or_one options.jobs fine.jobs, fine.retry)

    go : (a b c : Bool) → IsFineCommand (command_in (cond a (run_with (options_of no_options words)) (cond b (status_of words) (cond c (demo_of words) (alone word words)))))
    go true b c = of_options (options_of no_options words) refl
    go false true c = status_fine words
    go false false true = demo_fine words
    go false false false = word_fine word words

-- the limit of a retry that the words ask for
pub retry_is_limit : (words : List (List ℕ)) (jobs : ℕ) (stop : Option ℕ) (limit : ℕ) → command_of words ≡ Some (Run jobs stop (Some limit)) → IsTrue (is_limit limit)
retry_is_limit words jobs stop limit is = (subst IsFineCommand is (command_fine words)).1

-- and the slots
pub jobs_are_few : (words : List (List ℕ)) (jobs : ℕ) (stop retry : Option ℕ) → command_of words ≡ Some (Run jobs stop retry) → (1 ≤ jobs) × (jobs ≤ 64)
jobs_are_few words jobs stop retry is = (subst IsFineCommand is (command_fine words)).0

pub cells_are_few : (words : List (List ℕ)) (seed cells : ℕ) → command_of words ≡ Some (Demo seed cells) → (1 ≤ cells) × (cells ≤ 400)
cells_are_few words seed cells is = (subst IsFineCommand is (command_fine words)).1
