-- The options of `run` by their values.
use Rattle.command_words.proofs.Common.{◌≡◌, ◌∙◌, ◌==◌, ℕ, Bool, cond, true, false, true≢false, refl, sym, ap, List, [], ◌∷◌, get_or, Option, Some, None, codes, map, nat_eq, option_and_then, is_some}
use Rattle.command_words.proofs.Common.{onto_first, slice_split, starts_with, false_from_ne_true, Decides-eqb, starts_is, Text, Options, all_said, is_jobs, is_parted, is_stop, jobs_number, jobs_with}
use Rattle.command_words.proofs.Common.{option_joined, mutation_number, mutation_numbers, mutations_with, number_in, once, options_of, parted, retry_limit, retry_with, stop_number, stop_with}
use Rattle.result_book.specs.Rounds.{is_limit}
use Rattle.command_words.proofs.OptionWords.{Flag, IsOther, Jobs, Joined, JobsBy, JobsIn, Mutations, MutationsBy, Retry, RetryBy, Stop, StopBy, alone, flag_in, joined, value_in}
use Rattle.command_words.proofs.Turns.{Begins}

-- ---- options that may be wanting

abbrev pub and_then : {X Y : Type 0} → Option X → (X → Option Y) → Option Y
and_then o next = option_and_then next o

pub itself : {X : Type 0} (o : Option X) → and_then o Some ≡ o
itself None = refl
itself (Some x) = refl

pub none_all : {X Y : Type 0} (o : Option X) (next : X → Option Y) → ((x : X) → o ≡ Some x → next x ≡ None) → and_then o next ≡ None
none_all None next none = refl
none_all (Some x) next none = none x refl

pub regrouped : {X Y Z : Type 0} (o : Option X) (f : X → Option Y) (g : Y → Option Z) → and_then (and_then o f) g ≡ and_then o (λ x. and_then (f x) g)
regrouped None f g = refl
regrouped (Some x) f g = refl

pub same_next : {X Y : Type 0} (o : Option X) (f g : X → Option Y) → ((x : X) → f x ≡ g x) → and_then o f ≡ and_then o g
same_next None f g same = refl
same_next (Some x) f g same = same x

-- ---- one option

-- one more option with what its value says
abbrev pub with_option : Flag → Options → Text → Option Options
with_option Jobs options word = jobs_with options word
with_option Stop options word = stop_with options word
with_option Retry options word = retry_with options word
with_option Mutations options word = mutations_with options word

-- the option was given
abbrev pub is_given : Flag → Options → Bool
is_given Jobs options = is_some options.jobs
is_given Stop options = is_some options.stop_after
is_given Retry options = is_some options.retry
is_given Mutations options = is_some options.mutations

-- a word that begins with a hyphen says no number
begins_no_number : (is_one : ℕ → Bool) (word : Text) → Begins word → number_in is_one word ≡ None
begins_no_number is_one word begins = ap (number_in is_one) begins.1

-- nor numbers
hyphen_in_front : (parts : List Text) → all_said (map mutation_number (onto_first 45 parts)) ≡ None
hyphen_in_front [] = refl
hyphen_in_front (part ∷ parts) = refl

begins_no_numbers : (word : Text) → Begins word → mutation_numbers word ≡ None
begins_no_numbers word begins = ap mutation_numbers begins.1 ∙ hyphen_in_front (slice_split (λ byte. byte == 44) begins.0)

no_number : {N X : Type 0} (before said : Option N) (next : N → X) → said ≡ None → once before said next ≡ None
no_number (Some n) said next none = refl
no_number {N = N} None said next none = ap (λ (o : Option N). once None o next) none

pub begins_none : (f : Flag) (options : Options) (word : Text) → Begins word → with_option f options word ≡ None
begins_none Jobs options word begins = no_number options.jobs (jobs_number word) (λ number. record options { jobs = Some number }) (begins_no_number is_jobs word begins)
begins_none Stop options word begins = no_number options.stop_after (stop_number word) (λ number. record options { stop_after = Some number }) (begins_no_number is_stop word begins)
begins_none Retry options word begins = no_number options.retry (retry_limit word) (λ limit. record options { retry = Some limit }) (begins_no_number is_limit word begins)
begins_none Mutations options word begins = no_number options.mutations (mutation_numbers word) (λ numbers. record options { mutations = Some numbers }) (begins_no_numbers word begins)

-- an option that was given is not given again
twice : {N X : Type 0} (before said : Option N) (next : N → X) → is_some before ≡ true → once before said next ≡ None
twice None said next never = absurd (true≢false (sym never))
twice (Some n) said next some = refl

pub twice_none : (f : Flag) (options : Options) (word : Text) → is_given f options ≡ true → with_option f options word ≡ None
twice_none Jobs options word some = twice options.jobs (jobs_number word) (λ number. record options { jobs = Some number }) some
twice_none Stop options word some = twice options.stop_after (stop_number word) (λ number. record options { stop_after = Some number }) some
twice_none Retry options word some = twice options.retry (retry_limit word) (λ limit. record options { retry = Some limit }) some
twice_none Mutations options word some = twice options.mutations (mutation_numbers word) (λ numbers. record options { mutations = Some numbers }) some

-- ---- the words of an option

no_equals : (x : ℕ) (xs : Text) → (x == 61) ≡ false → starts_with nat_eq (x ∷ xs) (codes "=") ≡ false
no_equals x xs other = false_from_ne_true (starts_with nat_eq (x ∷ xs) (codes "=")) (λ same.
    let is : x ∷ xs ≡ 61 ∷ xs = (starts_is Decides-eqb (x ∷ xs) (codes "=") _ refl).0 same in
    let first : x ≡ 61 = ap (λ l. get_or l 0 0) is in
    true≢false (sym ((Decides-eqb x 61).1 first) ∙ other))

joined_is : (g : Joined) (options : Options) → option_joined options (joined g) ≡ with_option (flag_in g) options (value_in g)
joined_is (JobsBy value) options = refl
joined_is (JobsIn x other xs) options = ap (λ (b : Bool). jobs_with options (cond b xs (x ∷ xs))) (no_equals x xs other)
joined_is (StopBy value) options = refl
joined_is (RetryBy value) options = refl
joined_is (MutationsBy value) options = refl

not_parted : (g : Joined) → is_parted (joined g) ≡ false
not_parted (JobsBy value) = refl
not_parted (JobsIn x other xs) = refl
not_parted (StopBy value) = refl
not_parted (RetryBy value) = refl
not_parted (MutationsBy value) = refl

pub joined_options : (g : Joined) (options : Options) (rest : List Text) → options_of options (joined g ∷ rest) ≡ and_then (with_option (flag_in g) options (value_in g)) (λ next. options_of next rest)
joined_options g options [] = joined_is g options ∙ sym (itself (with_option (flag_in g) options (value_in g)))
joined_options g options (word ∷ rest) =
    ap (λ (b : Bool). cond b (and_then (parted options (joined g) word) (λ next. options_of next rest)) (and_then (option_joined options (joined g)) (λ next. options_of next (word ∷ rest)))) (not_parted g)
    ∙ ap (λ (o : Option Options). and_then o (λ next. options_of next (word ∷ rest))) (joined_is g options)

pub alone_options : (f : Flag) (options : Options) (value : Text) (rest : List Text) → options_of options (alone f ∷ value ∷ rest) ≡ and_then (with_option f options value) (λ next. options_of next rest)
alone_options Jobs options value rest = refl
alone_options Stop options value rest = refl
alone_options Retry options value rest = refl
alone_options Mutations options value rest = refl

-- an option without a value is none
pub alone_none : (f : Flag) (options : Options) → options_of options (alone f ∷ []) ≡ None
alone_none Jobs options = no_number options.jobs (jobs_number []) (λ number. record options { jobs = Some number }) refl
alone_none Stop options = refl
alone_none Retry options = refl
alone_none Mutations options = refl

other_joined : (options : Options) (word : Text) → IsOther word → option_joined options word ≡ None
other_joined options word other = rw (other.jobs.not_begun, other.stop.not_joined, other.retry.not_joined, other.mutations.not_joined) refl

pub other_options : (options : Options) (word : Text) (rest : List Text) → IsOther word → options_of options (word ∷ rest) ≡ None
other_options options word [] other = other_joined options word other
other_options options word (value ∷ rest) other =
    rw (other.jobs.not_alone, other.stop.not_alone, other.retry.not_alone, other.mutations.not_alone) (ap (λ (o : Option Options). and_then o (λ next. options_of next (value ∷ rest))) (other_joined options word other))
