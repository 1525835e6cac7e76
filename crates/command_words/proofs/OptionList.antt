-- What the words behind `run` ask for.
use Rattle.command_words.proofs.Common.{◌≡◌, ◌∙◌, ◌||◌, Bool, cond, true, false, true≢false, refl, sym, ap, subst, List, [], ◌∷◌, ◌++◌, Option, Some, None, inl, inr, ◌⊎◌, bytes_eq, is_some, list_any}
use Rattle.command_words.proofs.Common.{bytes_eq-Decides, Row, Text, has_row, Asked, Options, is_jobs_name, is_parted, is_retry_name, is_stop_name, jobs_with, option_joined, mutations_with}
use Rattle.command_words.proofs.Common.{no_options, options_of, parted, retry_with, run_with, stop_with, run_by}
use Rattle.command_words.proofs.FoundRows.{AreRows, Values, no_rows, no_values, row, rows_more, value_at, with_value}
use Rattle.command_words.proofs.OptionWords.{Flag, IsAlone, IsJoined, IsOther, Jobs, Joined, Mutations, Retry, Stop, alone, flag_in, joined, name_of, option_or_other, value_in}
use Rattle.command_words.proofs.RunEnds.{all_read, waits_ended}
use Rattle.command_words.proofs.RunTurns.{IsClean, answer, begun, further, other_none, waits}
use Rattle.command_words.proofs.RunWords.{ValueRead, alone_read, joined_read, value_read}
use Rattle.command_words.proofs.Turns.{Begins, dashes}
use Rattle.command_words.proofs.OptionValues.{alone_none, alone_options, and_then, begins_none, itself, joined_options, none_all, other_options, regrouped, same_next, twice_none, with_option}
use Rattle.command_words.proofs.SaidOptions.{options_by, run_by_options, said, said_more}

-- ---- all words behind `run`

-- what the words say where the values so far are these
abbrev said_by : Values → List Text → Option Asked
said_by values words = run_with (and_then (options_by values) (λ options. options_of options words))

none_said : (values : Values) (words : List Text) → ((options : Options) → options_by values ≡ Some options → options_of options words ≡ None) → said_by values words ≡ None
none_said values words none = ap run_with (none_all (options_by values) (λ options. options_of options words) none)

-- the words from a place between two options say what the options say
abbrev Says : List Text → Type 0
Says words = (rows : List Row) (values : Values) → AreRows rows values → IsClean words → answer (begun rows) words ≡ said_by values words

-- one option more, where the words behind it are known
one_more : (f : Flag) (v : Text) (rest : List Text) → Says rest → (rows : List Row) (values : Values) → AreRows rows values → IsClean rest → (b : Bool) → has_row (name_of f) rows ≡ b
    → further b (rows ++ row f v ∷ []) rest ≡ run_with (and_then (options_by values) (λ options. and_then (with_option f options v) (λ next. options_of next rest)))
one_more f v rest says rows values are clean true there =
    let has : is_some (value_at f values) ≡ true = sym (are.has f) ∙ there in
    sym (ap run_with (none_all (options_by values) (λ options. and_then (with_option f options v) (λ next. options_of next rest))
    (λ options e. ap (λ (o : Option Options). and_then o (λ next. options_of next rest)) (twice_none f options v (said f values options e has)))))
one_more f v rest says rows values are clean false none =
    let has : is_some (value_at f values) ≡ false = sym (are.has f) ∙ none in
    let no_value : value_at f values ≡ None = none_is (value_at f values) has in
    says (rows ++ row f v ∷ []) (with_value f v values) (rows_more f v rows values are no_value) clean
    ∙ ap run_with (ap (λ (o : Option Options). and_then o (λ options. options_of options rest)) (said_more f v values no_value) ∙ regrouped (options_by values) (λ options. with_option f options v) (λ options. options_of options rest))
  where
    none_is : (o : Option Text) → is_some o ≡ false → o ≡ None
    none_is None e = refl
    none_is (Some w) e = absurd (true≢false e)

module _ (rows : List Row) (values : Values) (are : AreRows rows values) where
  no_words : answer (begun rows) [] ≡ said_by values []
  no_words =
      all_read rows ∙ (λ i. run_by (are.found Jobs i) (are.found Stop i) (are.found Retry i) (are.found Mutations i)) ∙ run_by_options values
      ∙ ap run_with (sym (itself (options_by values)))

  at_joined : (g : Joined) (rest : List Text) → Says rest → IsClean rest → answer (begun rows) (joined g ∷ rest) ≡ said_by values (joined g ∷ rest)
  at_joined g rest says clean =
      joined_read g rows rest (has_row (name_of (flag_in g)) rows) refl ∙ one_more (flag_in g) (value_in g) rest says rows values are clean (has_row (name_of (flag_in g)) rows) refl
      ∙ ap run_with (same_next (options_by values) _ _ (λ options. sym (joined_options g options rest)))

  at_alone : (f : Flag) (v : Text) (rest : List Text) → Says rest → IsClean (v ∷ rest) → answer (begun rows) (alone f ∷ v ∷ rest) ≡ said_by values (alone f ∷ v ∷ rest)
  at_alone f v rest says clean =
      alone_read f rows (v ∷ rest) ∙ go (value_read f v rows rest clean (has_row (name_of f) rows) refl)
      ∙ ap run_with (same_next (options_by values) _ _ (λ options. sym (alone_options f options v rest)))
    where
      go : ValueRead f v rows rest (has_row (name_of f) rows)
          → answer (waits f rows) (v ∷ rest) ≡ run_with (and_then (options_by values) (λ options. and_then (with_option f options v) (λ next. options_of next rest)))
      go (inl r) = r.0 ∙ sym (ap run_with (none_all (options_by values) _ (λ options e. ap (λ (o : Option Options). and_then o (λ next. options_of next rest)) (begins_none f options v r.1))))
      go (inr e) = e ∙ one_more f v rest says rows values are clean.1 (has_row (name_of f) rows) refl

  at_last : (f : Flag) → answer (begun rows) (alone f ∷ []) ≡ said_by values (alone f ∷ [])
  at_last f = alone_read f rows [] ∙ waits_ended f rows ∙ sym (none_said values (alone f ∷ []) (λ options e. alone_none f options))

  at_other : (word : Text) (rest : List Text) → IsOther word → bytes_eq word dashes ≡ false → answer (begun rows) (word ∷ rest) ≡ said_by values (word ∷ rest)
  at_other word rest other dash = other_none rows word rest other dash ∙ sym (none_said values (word ∷ rest) (λ options e. other_options options word rest other))

says_all : (words : List Text) → Says words
says_all [] rows values are clean = no_words rows values are
says_all (word ∷ []) rows values are clean = go (option_or_other word clean.0.text)
  where
    go : IsAlone word ⊎ (IsJoined word ⊎ IsOther word) → answer (begun rows) (word ∷ []) ≡ said_by values (word ∷ [])
    go (inl is) = subst (λ x. answer (begun rows) (x ∷ []) ≡ said_by values (x ∷ [])) (sym is.1) (at_last rows values are is.0)
    go (inr (inl is)) = subst (λ x. answer (begun rows) (x ∷ []) ≡ said_by values (x ∷ [])) (sym is.1) (at_joined rows values are is.0 [] (λ rs vs a c. no_words rs vs a) clean.1)
    go (inr (inr other)) = at_other rows values are word [] other clean.0.no_dashes
says_all (word ∷ v ∷ more) rows values are clean = go (says_all more) (says_all (v ∷ more)) (option_or_other word clean.0.text)
  where
    go : Says more → Says (v ∷ more) → IsAlone word ⊎ (IsJoined word ⊎ IsOther word) → answer (begun rows) (word ∷ v ∷ more) ≡ said_by values (word ∷ v ∷ more)
    go one two (inl is) = subst (λ x. answer (begun rows) (x ∷ v ∷ more) ≡ said_by values (x ∷ v ∷ more)) (sym is.1) (at_alone rows values are is.0 v more one clean.1)
    go one two (inr (inl is)) = subst (λ x. answer (begun rows) (x ∷ v ∷ more) ≡ said_by values (x ∷ v ∷ more)) (sym is.1) (at_joined rows values are is.0 (v ∷ more) two clean.1)
    go one two (inr (inr other)) = at_other rows values are word (v ∷ more) other clean.0.no_dashes

-- the words behind `run` give the command of the options that they give
pub run_words : (words : List Text) → IsClean words → answer (begun []) words ≡ run_with (options_of no_options words)
run_words words clean = says_all words [] no_values no_rows clean

-- ---- words with `--`

-- words with `--` give no options
abbrev GivesNone : List Text → Type 0
GivesNone words = (options : Options) → list_any (λ x. bytes_eq x dashes) words ≡ true → options_of options words ≡ None

pub dashes_none : (options : Options) (words : List Text) → list_any (λ word. bytes_eq word dashes) words ≡ true → options_of options words ≡ None
dashes_none options [] e = absurd (true≢false (sym e))
dashes_none options (word ∷ []) e = go (bytes_eq word dashes) refl e
  where
    go : (b : Bool) → bytes_eq word dashes ≡ b → (b || false) ≡ true → option_joined options word ≡ None
    go true same h = subst (λ x. option_joined options x ≡ None) (sym ((bytes_eq-Decides word dashes).0 same)) refl
    go false other h = absurd (true≢false (sym h))
dashes_none options (word ∷ value ∷ more) e = go (λ next h. dashes_none next more h) (λ next h. dashes_none next (value ∷ more) h) (bytes_eq word dashes) refl e
  where
    begins : bytes_eq value dashes ≡ true → Begins value
    begins same = (45 ∷ [], (bytes_eq-Decides value dashes).0 same)

    parted_none : bytes_eq value dashes ≡ true → (a b c : Bool) → cond a (jobs_with options value) (cond b (stop_with options value) (cond c (retry_with options value) (mutations_with options value))) ≡ None
    parted_none same true b c = begins_none Jobs options value (begins same)
    parted_none same false true c = begins_none Stop options value (begins same)
    parted_none same false false true = begins_none Retry options value (begins same)
    parted_none same false false false = begins_none Mutations options value (begins same)

    at_value : GivesNone more → (b : Bool) → bytes_eq value dashes ≡ b → (b || list_any (λ x. bytes_eq x dashes) more) ≡ true → and_then (parted options word value) (λ next. options_of next more) ≡ None
    at_value none true same h = ap (λ (o : Option Options). and_then o (λ next. options_of next more)) (parted_none same (is_jobs_name word) (is_stop_name word) (is_retry_name word))
    at_value none false other h = none_all (parted options word value) (λ next. options_of next more) (λ next e. none next h)

    behind : GivesNone more → GivesNone (value ∷ more) → (b : Bool) → list_any (λ x. bytes_eq x dashes) (value ∷ more) ≡ true
        → cond b (and_then (parted options word value) (λ next. options_of next more)) (and_then (option_joined options word) (λ next. options_of next (value ∷ more))) ≡ None
    behind one two true h = at_value one (bytes_eq value dashes) refl h
    behind one two false h = none_all (option_joined options word) (λ next. options_of next (value ∷ more)) (λ next e. two next h)

    go : GivesNone more → GivesNone (value ∷ more) → (b : Bool) → bytes_eq word dashes ≡ b → (b || list_any (λ x. bytes_eq x dashes) (value ∷ more)) ≡ true → options_of options (word ∷ value ∷ more) ≡ None
    go one two true same h = subst (λ x. options_of options (x ∷ value ∷ more) ≡ None) (sym ((bytes_eq-Decides word dashes).0 same)) refl
    go one two false other h = behind one two (is_parted word) h
