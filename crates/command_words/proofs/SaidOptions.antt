-- The options of `run` that values say, each on its own.
use Rattle.command_words.proofs.Common.{◌≡◌, ◌∙◌, ℕ, true, true≢false, refl, sym, ap, List, [], Option, Some, None, option_map, option_and_then, unwrap_or, is_some, Text, Asked, Options, jobs_number}
use Rattle.command_words.proofs.Common.{jobs_with, mutation_numbers, mutations_with, once, retry_limit, retry_with, run_with, stop_number, stop_with, choosing_by, retrying_by, run_at, run_by, said_by}
use Rattle.command_words.proofs.Common.{stopping_by, none-some, same_Some}
use Rattle.command_words.proofs.FoundRows.{Values, value_at, with_value}
use Rattle.command_words.proofs.OptionValues.{and_then, is_given, with_option}
use Rattle.command_words.proofs.OptionWords.{Flag, Jobs, Mutations, Retry, Stop}

-- options with these values
abbrev saying : Option ℕ → Option ℕ → Option ℕ → Option (List ℕ) → Options
saying jobs stop limit mutations = record { jobs = jobs; stop_after = stop; retry = limit; mutations = mutations }

-- what a value that may be wanting says; none where it says nothing
abbrev read_at : {N : Type 0} → (Text → Option N) → Option Text → Option (Option N)
read_at read None = Some None
read_at read (Some word) = option_map (λ n. Some n) (read word)

-- the options of what the four say
abbrev of_four : Option (Option ℕ) → Option (Option ℕ) → Option (Option ℕ) → Option (Option (List ℕ)) → Option Options
of_four None stop limit mutations = None
of_four (Some jobs) None limit mutations = None
of_four (Some jobs) (Some stop) None mutations = None
of_four (Some jobs) (Some stop) (Some limit) None = None
of_four (Some jobs) (Some stop) (Some limit) (Some mutations) = Some (saying jobs stop limit mutations)

-- what they say, if each says something
abbrev pub options_by : Values → Option Options
options_by values = of_four (read_at jobs_number values.jobs) (read_at stop_number values.stop) (read_at retry_limit values.retry) (read_at mutation_numbers values.mutations)

-- ---- the command by what its values say

abbrev by_reading : {N : Type 0} → Option (Option N) → (Option N → Option Asked) → Option Asked
by_reading None next = None
by_reading (Some said) next = next said

read_by : {N : Type 0} (read : Text → Option N) (o : Option Text) (next : Option N → Option Asked) → said_by read o next ≡ by_reading (read_at read o) next
read_by read None next = refl
read_by {N = N} read (Some word) next = go (read word)
  where
    go : (said : Option N) → option_and_then (λ n. next (Some n)) said ≡ by_reading (option_map (λ n. Some n) said) next
    go None = refl
    go (Some n) = refl

same_reading : {N : Type 0} (a : Option (Option N)) (f g : Option N → Option Asked) → ((n : Option N) → f n ≡ g n) → by_reading a f ≡ by_reading a g
same_reading None f g same = refl
same_reading (Some n) f g same = same n

run_of_four : (jobs stop limit : Option (Option ℕ)) (mutations : Option (Option (List ℕ)))
    → by_reading jobs (λ j. by_reading stop (λ s. by_reading limit (λ l. by_reading mutations (λ m. Some (run_at (unwrap_or j 1) s l (unwrap_or m [])))))) ≡ run_with (of_four jobs stop limit mutations)
run_of_four None stop limit mutations = refl
run_of_four (Some jobs) None limit mutations = refl
run_of_four (Some jobs) (Some stop) None mutations = refl
run_of_four (Some jobs) (Some stop) (Some limit) None = refl
run_of_four (Some jobs) (Some stop) (Some limit) (Some mutations) = refl

module _ (values : Values) where
  abbrev jobs_read : Option (Option ℕ)
  jobs_read = read_at jobs_number values.jobs

  abbrev stop_read : Option (Option ℕ)
  stop_read = read_at stop_number values.stop

  abbrev limit_read : Option (Option ℕ)
  limit_read = read_at retry_limit values.retry

  abbrev mutations_read : Option (Option (List ℕ))
  mutations_read = read_at mutation_numbers values.mutations

  behind_stop : (jobs : ℕ) (s : Option ℕ) → retrying_by jobs s values.retry values.mutations ≡ by_reading limit_read (λ l. by_reading mutations_read (λ m. Some (run_at jobs s l (unwrap_or m []))))
  behind_stop jobs s =
      read_by retry_limit values.retry (λ l. choosing_by jobs s l values.mutations)
      ∙ same_reading limit_read (λ l. choosing_by jobs s l values.mutations) (λ l. by_reading mutations_read (λ m. Some (run_at jobs s l (unwrap_or m []))))
      (λ l. read_by mutation_numbers values.mutations (λ m. Some (run_at jobs s l (unwrap_or m []))))

  behind_jobs : (jobs : ℕ) → stopping_by jobs values.stop values.retry values.mutations
      ≡ by_reading stop_read (λ s. by_reading limit_read (λ l. by_reading mutations_read (λ m. Some (run_at jobs s l (unwrap_or m [])))))
  behind_jobs jobs =
      read_by stop_number values.stop (λ s. retrying_by jobs s values.retry values.mutations)
      ∙ same_reading stop_read (λ s. retrying_by jobs s values.retry values.mutations)
      (λ s. by_reading limit_read (λ l. by_reading mutations_read (λ m. Some (run_at jobs s l (unwrap_or m []))))) (behind_stop jobs)

  pub run_by_options : run_by values.jobs values.stop values.retry values.mutations ≡ run_with (options_by values)
  run_by_options =
      read_by jobs_number values.jobs (λ j. stopping_by (unwrap_or j 1) values.stop values.retry values.mutations)
      ∙ same_reading jobs_read (λ j. stopping_by (unwrap_or j 1) values.stop values.retry values.mutations)
      (λ j. by_reading stop_read (λ s. by_reading limit_read (λ l. by_reading mutations_read (λ m. Some (run_at (unwrap_or j 1) s l (unwrap_or m [])))))) (λ j. behind_jobs (unwrap_or j 1))
      ∙ run_of_four jobs_read stop_read limit_read mutations_read

-- ---- an option that has a value was given

read_some : {N : Type 0} (read : Text → Option N) (o : Option Text) (n : Option N) → read_at read o ≡ Some n → is_some o ≡ true → is_some n ≡ true
read_some read None n e some = absurd (true≢false (sym some))
read_some {N = N} read (Some word) n e some = go (read word) e
  where
    go : (said : Option N) → option_map (λ k. Some k) said ≡ Some n → is_some n ≡ true
    go None never = absurd (none-some n never)
    go (Some k) is = ap is_some (sym (same_Some (Some k) n is))

-- what the values of such options say
record AreRead (jobs stop limit : Option (Option ℕ)) (mutations : Option (Option (List ℕ))) (options : Options) : Type 0 where
  jobs_are : jobs ≡ Some options.jobs
  stop_is : stop ≡ Some options.stop_after
  limit_is : limit ≡ Some options.retry
  mutations_are : mutations ≡ Some options.mutations

four_are : (jobs stop limit : Option (Option ℕ)) (mutations : Option (Option (List ℕ))) (options : Options) → of_four jobs stop limit mutations ≡ Some options → AreRead jobs stop limit mutations options
four_are None stop limit mutations options e = absurd (none-some options e)
four_are (Some jobs) None limit mutations options e = absurd (none-some options e)
four_are (Some jobs) (Some stop) None mutations options e = absurd (none-some options e)
four_are (Some jobs) (Some stop) (Some limit) None options e = absurd (none-some options e)
four_are (Some jobs) (Some stop) (Some limit) (Some mutations) options e =
    let same : saying jobs stop limit mutations ≡ options = same_Some (saying jobs stop limit mutations) options e in
    record {
      jobs_are = ap (λ (o : Options). Some o.jobs) same;
      stop_is = ap (λ (o : Options). Some o.stop_after) same;
      limit_is = ap (λ (o : Options). Some o.retry) same;
      mutations_are = ap (λ (o : Options). Some o.mutations) same;
    }

pub said : (f : Flag) (values : Values) (options : Options) → options_by values ≡ Some options → is_some (value_at f values) ≡ true → is_given f options ≡ true
said f values options are some = go f some
  where
    read : AreRead (read_at jobs_number values.jobs) (read_at stop_number values.stop) (read_at retry_limit values.retry) (read_at mutation_numbers values.mutations) options
    read = four_are (read_at jobs_number values.jobs) (read_at stop_number values.stop) (read_at retry_limit values.retry) (read_at mutation_numbers values.mutations) options are

    go : (f : Flag) → is_some (value_at f values) ≡ true → is_given f options ≡ true
    go Jobs e = read_some jobs_number values.jobs options.jobs read.jobs_are e
    go Stop e = read_some stop_number values.stop options.stop_after read.stop_is e
    go Retry e = read_some retry_limit values.retry options.retry read.limit_is e
    go Mutations e = read_some mutation_numbers values.mutations options.mutations read.mutations_are e

-- ---- one value more says one option more

jobs_more : (number : Option ℕ) (stop limit : Option (Option ℕ)) (mutations : Option (Option (List ℕ))) → of_four (option_map (λ n. Some n) number) stop limit mutations
    ≡ and_then (of_four (Some None) stop limit mutations) (λ (options : Options). once options.jobs number (λ n. record options { jobs = Some n }))
jobs_more None None limit mutations = refl
jobs_more None (Some stop) None mutations = refl
jobs_more None (Some stop) (Some limit) None = refl
jobs_more None (Some stop) (Some limit) (Some mutations) = refl
jobs_more (Some n) None limit mutations = refl
jobs_more (Some n) (Some stop) None mutations = refl
jobs_more (Some n) (Some stop) (Some limit) None = refl
jobs_more (Some n) (Some stop) (Some limit) (Some mutations) = refl

stop_more : (number : Option ℕ) (jobs limit : Option (Option ℕ)) (mutations : Option (Option (List ℕ))) → of_four jobs (option_map (λ n. Some n) number) limit mutations
    ≡ and_then (of_four jobs (Some None) limit mutations) (λ (options : Options). once options.stop_after number (λ n. record options { stop_after = Some n }))
stop_more number None limit mutations = refl
stop_more None (Some jobs) None mutations = refl
stop_more None (Some jobs) (Some limit) None = refl
stop_more None (Some jobs) (Some limit) (Some mutations) = refl
stop_more (Some n) (Some jobs) None mutations = refl
stop_more (Some n) (Some jobs) (Some limit) None = refl
stop_more (Some n) (Some jobs) (Some limit) (Some mutations) = refl

retry_more : (number : Option ℕ) (jobs stop : Option (Option ℕ)) (mutations : Option (Option (List ℕ))) → of_four jobs stop (option_map (λ n. Some n) number) mutations
    ≡ and_then (of_four jobs stop (Some None) mutations) (λ (options : Options). once options.retry number (λ n. record options { retry = Some n }))
retry_more number None stop mutations = refl
retry_more number (Some jobs) None mutations = refl
retry_more None (Some jobs) (Some stop) None = refl
retry_more None (Some jobs) (Some stop) (Some mutations) = refl
retry_more (Some n) (Some jobs) (Some stop) None = refl
retry_more (Some n) (Some jobs) (Some stop) (Some mutations) = refl

mutations_more : (numbers : Option (List ℕ)) (jobs stop limit : Option (Option ℕ)) → of_four jobs stop limit (option_map (λ n. Some n) numbers)
    ≡ and_then (of_four jobs stop limit (Some None)) (λ (options : Options). once options.mutations numbers (λ n. record options { mutations = Some n }))
mutations_more numbers None stop limit = refl
mutations_more numbers (Some jobs) None limit = refl
mutations_more numbers (Some jobs) (Some stop) None = refl
mutations_more None (Some jobs) (Some stop) (Some limit) = refl
mutations_more (Some n) (Some jobs) (Some stop) (Some limit) = refl

pub said_more : (f : Flag) (word : Text) (values : Values) → value_at f values ≡ None → options_by (with_value f word values) ≡ and_then (options_by values) (λ options. with_option f options word)
said_more Jobs word values none =
    jobs_more (jobs_number word) (read_at stop_number values.stop) (read_at retry_limit values.retry) (read_at mutation_numbers values.mutations)
    ∙ ap (λ (jobs : Option Text). and_then (of_four (read_at jobs_number jobs) (read_at stop_number values.stop) (read_at retry_limit values.retry) (read_at mutation_numbers values.mutations)) (λ options. jobs_with options word)) (sym none)
said_more Stop word values none =
    stop_more (stop_number word) (read_at jobs_number values.jobs) (read_at retry_limit values.retry) (read_at mutation_numbers values.mutations)
    ∙ ap (λ (stop : Option Text). and_then (of_four (read_at jobs_number values.jobs) (read_at stop_number stop) (read_at retry_limit values.retry) (read_at mutation_numbers values.mutations)) (λ options. stop_with options word)) (sym none)
said_more Retry word values none =
    retry_more (retry_limit word) (read_at jobs_number values.jobs) (read_at stop_number values.stop) (read_at mutation_numbers values.mutations)
    ∙ ap (λ (limit : Option Text). and_then (of_four (read_at jobs_number values.jobs) (read_at stop_number values.stop) (read_at retry_limit limit) (read_at mutation_numbers values.mutations)) (λ options. retry_with options word)) (sym none)
said_more Mutations word values none =
    mutations_more (mutation_numbers word) (read_at jobs_number values.jobs) (read_at stop_number values.stop) (read_at retry_limit values.retry)
    ∙ ap (λ (named : Option Text). and_then (of_four (read_at jobs_number values.jobs) (read_at stop_number values.stop) (read_at retry_limit values.retry) (read_at mutation_numbers named)) (λ options. mutations_with options word)) (sym none)
