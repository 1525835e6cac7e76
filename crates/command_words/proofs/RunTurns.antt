-- The words behind `run`: what the parse holds after each. There are few places in which it can be: between two options, behind an
-- option that waits for its value, and behind a value that is not taken over yet.
use Rattle.command_words.proofs.Common.{◌≡◌, ◌∙◌, ◌&&◌, ◌||◌, ◌==◌, ℕ, Bool, cond, true, false, refl, sym, ap, subst, List, [], ◌∷◌, ◌++◌, Option, Some, None, IsUtf8, ⊤, bytes_eq, option_map_or, Held}
use Rattle.command_words.proofs.Common.{Row, Rule, Step, Text, Waiting, Walk, after_flag, after_step, attached_value, has_row, idle, next, option, option_met, plain_word, positional, settled, used}
use Rattle.command_words.proofs.Common.{walked, Shape, built_leaf, filled, inherited, marked_built, with_index, with_leaf_noted, Kinds, or_else, option_fault, settle_fault, step_fault, turn_fault}
use Rattle.command_words.proofs.Common.{use_fault, clap_on_literals, Asked, command_line, jobs_rule, mutations_rule, retry_rule, run_found, run_shape, stop_rule}
use Rattle.clap.specs.declared.error.kind.ErrorKind.TheVariants.{ArgumentConflict}
use Rattle.command_words.proofs.FoundRows.{first_value, row}
use Rattle.command_words.proofs.OptionWords.{Flag, IsOther, Jobs, Joined, JobsBy, JobsIn, Mutations, MutationsBy, Retry, RetryBy, Stop, StopBy, alone, flag_in, joined, name_of, value_in}
use Rattle.command_words.proofs.Turns.{IsRefused, KnowsNot, at, dashes, holding, or_refused, refused_at, stray, verdict}

-- the word is a text and not `--`
pub record IsWord (word : Text) : Type 0 where
  pub no_dashes : bytes_eq word dashes ≡ false
  pub text : IsUtf8 word

-- and so is each word
abbrev pub IsClean : List Text → Type 0
IsClean [] = ⊤
IsClean (word ∷ rest) = IsWord word × IsClean rest

-- a subcommand of the program, as it is built
abbrev pub below : Shape → Shape
below s = built_leaf (inherited (with_leaf_noted (marked_built command_line.top)) s)

abbrev pub run : Shape
run = below run_shape

abbrev pub rule_of : Flag → Rule
rule_of Jobs = with_index 1 (filled jobs_rule)
rule_of Stop = with_index 1 (filled stop_rule)
rule_of Retry = with_index 1 (filled retry_rule)
rule_of Mutations = with_index 1 (filled mutations_rule)

abbrev pub by_rows : List Row → Option Asked
by_rows rows = run_found rows

abbrev pub answer : Walk → List Text → Option Asked
answer = verdict run by_rows

-- ---- the places

-- between two options
abbrev pub begun : List Row → Walk
begun rows = at 1 (holding rows None) idle

-- an option waits for its value
abbrev pub waits : Flag → List Row → Walk
waits f rows = at 1 (holding rows (Some (name_of f, []))) (option (name_of f))

-- a word was its value
abbrev pub given : Flag → List Row → Text → Walk
given f rows value = at 1 (holding rows (Some (name_of f, value ∷ []))) idle

-- what is answered with one value more: none where the option has one
abbrev pub further : Bool → List Row → List Text → Option Asked
further true rows words = None
further false rows words = answer (begun rows) words

-- ---- what is refused

pub knows_not : (word : Text) → IsOther word → KnowsNot run word
knows_not word other = record {
  long = λ p e i. cond (other.stop.long p e i || false) (Some (rule_of Stop)) (cond (other.retry.long p e i || false) (Some (rule_of Retry)) (cond (other.mutations.long p e i || false) (Some (rule_of Mutations)) None));
  short = λ flags e c first. ap (λ (b : Bool). cond (b || false) (Some (rule_of Jobs)) None) (other.jobs.short flags e c first);
}

pub other_refused : (rows : List Row) (pending : Option (Text × List Text)) (word : Text) (rest : List Text) → IsOther word → bytes_eq word dashes ≡ false
    → answer (at 1 (holding rows pending) idle) (word ∷ rest) ≡ None
other_refused rows pending word rest other dash =
    refused_at run by_rows (at 1 (holding rows pending) idle) word rest (stray run [] word rows pending 1 (knows_not word other) refl dash refl)

-- a word that is no option gives no command
pub other_none : (rows : List Row) (word : Text) (rest : List Text) → IsOther word → bytes_eq word dashes ≡ false → answer (begun rows) (word ∷ rest) ≡ None
other_none rows word rest other dash = other_refused rows None word rest other dash

-- ---- a value, as it is taken over

-- an option that has a value already is refused another
abbrev conflict : Bool → Kinds
conflict true = ArgumentConflict ∷ []
conflict false = []

conflict_is : (b : Bool) → or_else (cond (b && true) (ArgumentConflict ∷ []) []) [] ≡ conflict b
conflict_is true = refl
conflict_is false = refl

use_once : (f : Flag) (value : Text) (rows : List Row) → use_fault false (rule_of f) (value ∷ []) rows ≡ conflict (has_row (name_of f) rows)
use_once Jobs value rows = conflict_is (has_row (name_of Jobs) rows)
use_once Stop value rows = conflict_is (has_row (name_of Stop) rows)
use_once Retry value rows = conflict_is (has_row (name_of Retry) rows)
use_once Mutations value rows = conflict_is (has_row (name_of Mutations) rows)

pub use_refused : (f : Flag) (value : Text) (rows : List Row) → has_row (name_of f) rows ≡ true → IsRefused (use_fault false (rule_of f) (value ∷ []) rows)
use_refused f value rows there = subst IsRefused (sym (use_once f value rows ∙ ap conflict there)) tt

pub use_taken : (f : Flag) (value : Text) (rows : List Row) → has_row (name_of f) rows ≡ false → use_fault false (rule_of f) (value ∷ []) rows ≡ []
use_taken f value rows none = use_once f value rows ∙ ap conflict none

pub used_first : (f : Flag) (value : Text) (rows : List Row) → has_row (name_of f) rows ≡ false → used (rule_of f) (value ∷ []) rows ≡ rows ++ row f value ∷ []
used_first Jobs value rows none = first_value Jobs value rows none
used_first Stop value rows none = first_value Stop value rows none
used_first Retry value rows none = first_value Retry value rows none
used_first Mutations value rows none = first_value Mutations value rows none

-- ---- an option, whatever is pending: that is taken over first

-- the fault of an option with its value, from that of what is taken over and the rows behind it
abbrev pub joined_fault : Flag → Text → Kinds → List Row → Kinds
joined_fault f value before rows = or_else (or_else before (use_fault false (rule_of f) (value ∷ []) rows)) []

-- `-j` and more, by the value that is found behind it
abbrev short_met : List Row → Option (Text × List Text) → Waiting → Text → Option Text → Held × Step
short_met rows pending waiting word value =
    after_flag run.rules waiting word (option_met run.rules (rule_of Jobs) value (holding rows pending)).0 (option_met run.rules (rule_of Jobs) value (holding rows pending)).1

abbrev short_fault : List Row → Option (Text × List Text) → Waiting → Text → Option Text → Kinds
short_fault rows pending waiting word value =
    or_else (option_fault run.rules false (rule_of Jobs) value (holding rows pending)) (step_fault run 1 (short_met rows pending waiting word value).0 (short_met rows pending waiting word value).1)

short_turn : (rows : List Row) (pending : Option (Text × List Text)) (waiting : Waiting) (x : ℕ) (xs : Text)
    → turn_fault run [] (at 1 (holding rows pending) waiting) (45 ∷ 106 ∷ x ∷ xs) ≡ short_fault rows pending waiting (45 ∷ 106 ∷ x ∷ xs) (attached_value (x ∷ xs))
unfolding clap_on_literals
short_turn rows pending idle x xs = refl
short_turn rows pending (option id) x xs = refl
short_turn rows pending positional x xs = refl

short_walk : (rows : List Row) (pending : Option (Text × List Text)) (x : ℕ) (xs : Text)
    → walked run.rules [] (at 1 (holding rows pending) idle) (45 ∷ 106 ∷ x ∷ xs)
    ≡ after_step run.rules (45 ∷ 106 ∷ x ∷ xs) (at 1 (holding rows pending) idle) (short_met rows pending idle (45 ∷ 106 ∷ x ∷ xs) (attached_value (x ∷ xs))).0 (short_met rows pending idle (45 ∷ 106 ∷ x ∷ xs) (attached_value (x ∷ xs))).1
unfolding clap_on_literals
short_walk rows pending x xs = refl

attached : (x : ℕ) (xs : Text) → (x == 61) ≡ false → attached_value (x ∷ xs) ≡ Some (x ∷ xs)
attached x xs other = ap (λ (b : Bool). option_map_or (λ (v : Text). Some v) (cond b (Some xs) None) (Some (x ∷ xs))) other

pub joined_turn : (rows : List Row) (pending : Option (Text × List Text)) (waiting : Waiting) (g : Joined) → turn_fault run [] (at 1 (holding rows pending) waiting) (joined g)
    ≡ joined_fault (flag_in g) (value_in g) (settle_fault run.rules false (holding rows pending)) (settled run.rules (holding rows pending)).rows
unfolding clap_on_literals
joined_turn rows pending waiting (JobsIn x other xs) = short_turn rows pending waiting x xs ∙ ap (short_fault rows pending waiting (45 ∷ 106 ∷ x ∷ xs)) (attached x xs other)
joined_turn rows pending waiting (JobsBy value) = short_turn rows pending waiting 61 value
joined_turn rows pending idle (StopBy value) = refl
joined_turn rows pending (option id) (StopBy value) = refl
joined_turn rows pending positional (StopBy value) = refl
joined_turn rows pending idle (RetryBy value) = refl
joined_turn rows pending (option id) (RetryBy value) = refl
joined_turn rows pending positional (RetryBy value) = refl
joined_turn rows pending idle (MutationsBy value) = refl
joined_turn rows pending (option id) (MutationsBy value) = refl
joined_turn rows pending positional (MutationsBy value) = refl

pub joined_walk : (rows : List Row) (pending : Option (Text × List Text)) (g : Joined)
    → walked run.rules [] (at 1 (holding rows pending) idle) (joined g) ≡ begun (used (rule_of (flag_in g)) (value_in g ∷ []) (settled run.rules (holding rows pending)).rows)
unfolding clap_on_literals
joined_walk rows pending (JobsIn x other xs) =
    short_walk rows pending x xs
    ∙ ap (λ (v : Option Text). after_step run.rules (45 ∷ 106 ∷ x ∷ xs) (at 1 (holding rows pending) idle) (short_met rows pending idle (45 ∷ 106 ∷ x ∷ xs) v).0 (short_met rows pending idle (45 ∷ 106 ∷ x ∷ xs) v).1) (attached x xs other)
joined_walk rows pending (JobsBy value) = short_walk rows pending 61 value
joined_walk rows pending (StopBy value) = refl
joined_walk rows pending (RetryBy value) = refl
joined_walk rows pending (MutationsBy value) = refl

pub alone_turn : (rows : List Row) (pending : Option (Text × List Text)) (waiting : Waiting) (f : Flag)
    → turn_fault run [] (at 1 (holding rows pending) waiting) (alone f) ≡ or_else (settle_fault run.rules false (holding rows pending)) []
unfolding clap_on_literals
alone_turn rows pending idle Jobs = refl
alone_turn rows pending idle Stop = refl
alone_turn rows pending idle Retry = refl
alone_turn rows pending idle Mutations = refl
alone_turn rows pending (option id) Jobs = refl
alone_turn rows pending (option id) Stop = refl
alone_turn rows pending (option id) Retry = refl
alone_turn rows pending (option id) Mutations = refl
alone_turn rows pending positional Jobs = refl
alone_turn rows pending positional Stop = refl
alone_turn rows pending positional Retry = refl
alone_turn rows pending positional Mutations = refl

pub alone_walk : (rows : List Row) (pending : Option (Text × List Text)) (f : Flag) → walked run.rules [] (at 1 (holding rows pending) idle) (alone f) ≡ waits f (settled run.rules (holding rows pending)).rows
unfolding clap_on_literals
alone_walk rows pending Jobs = refl
alone_walk rows pending Stop = refl
alone_walk rows pending Retry = refl
alone_walk rows pending Mutations = refl

-- ---- what is pending

-- a value that is pending is taken over
pub settle_given : (f : Flag) (v : Text) (rows : List Row) → settle_fault run.rules false (holding rows (Some (name_of f, v ∷ []))) ≡ use_fault false (rule_of f) (v ∷ []) rows
settle_given Jobs v rows = refl
settle_given Stop v rows = refl
settle_given Retry v rows = refl
settle_given Mutations v rows = refl

pub settled_given : (f : Flag) (v : Text) (rows : List Row) → (settled run.rules (holding rows (Some (name_of f, v ∷ [])))).rows ≡ used (rule_of f) (v ∷ []) rows
settled_given Jobs v rows = refl
settled_given Stop v rows = refl
settled_given Retry v rows = refl
settled_given Mutations v rows = refl

-- an option that waits may not be left
settle_waits : (f : Flag) (rows : List Row) → IsRefused (settle_fault run.rules false (holding rows (Some (name_of f, []))))
settle_waits Jobs rows = tt
settle_waits Stop rows = tt
settle_waits Retry rows = tt
settle_waits Mutations rows = tt

pub waits_alone_refused : (f g : Flag) (rows : List Row) → IsRefused (turn_fault run [] (waits f rows) (alone g))
waits_alone_refused f g rows =
    subst IsRefused (sym (alone_turn rows (Some (name_of f, [])) (option (name_of f)) g)) (or_refused (settle_fault run.rules false (holding rows (Some (name_of f, [])))) [] (settle_waits f rows))

pub joined_refused : (f : Flag) (value : Text) (before : Kinds) (rows : List Row) → IsRefused before → IsRefused (joined_fault f value before rows)
joined_refused f value before rows refused =
    or_refused (or_else before (use_fault false (rule_of f) (value ∷ []) rows)) [] (or_refused before (use_fault false (rule_of f) (value ∷ []) rows) refused)

pub waits_joined_refused : (f : Flag) (g : Joined) (rows : List Row) → IsRefused (turn_fault run [] (waits f rows) (joined g))
waits_joined_refused f g rows =
    subst IsRefused (sym (joined_turn rows (Some (name_of f, [])) (option (name_of f)) g))
    (joined_refused (flag_in g) (value_in g) (settle_fault run.rules false (holding rows (Some (name_of f, [])))) (settled run.rules (holding rows (Some (name_of f, [])))).rows (settle_waits f rows))

-- a plain word is its value
pub waits_plain : (f : Flag) (word : Text) (rows : List Row) → plain_word run.rules (option (name_of f)) word (holding rows (Some (name_of f, []))) ≡ (holding rows (Some (name_of f, word ∷ [])), next idle)
unfolding clap_on_literals
waits_plain Jobs word rows = refl
waits_plain Stop word rows = refl
waits_plain Retry word rows = refl
waits_plain Mutations word rows = refl
