-- The end of the words behind `run`: what was found gives the command, unless an option still waits for its value.
use Rattle.command_words.proofs.Common.{◌≡◌, ◌∙◌, ◌||◌, Bool, cond, true, false, refl, ap, ap₂, List, [], ◌∷◌, Option, None, Row, Text, has_row, used, with_default, Kinds, or_else, check_fault}
use Rattle.command_words.proofs.Common.{default_fault, defaults_fault, given_default_fault, use_fault, clap_on_literals, Asked}
use Rattle.std.specs.Prelude.{fold}
use Rattle.command_words.proofs.OptionWords.{Flag, Jobs, Mutations, Retry, Stop, name_of}
use Rattle.command_words.proofs.RunTurns.{answer, begun, by_rows, given, rule_of, run, waits}
use Rattle.command_words.proofs.Turns.{taken}

-- the answer at the end, from the fault and the rows of what is taken over there
abbrev pub ended : Kinds → List Row → Option Asked
ended before rows =
    taken (or_else before (or_else (defaults_fault rows run.rules) (check_fault run (fold with_default rows run.rules) false))) (by_rows (fold with_default rows run.rules))

pub begun_ended : (rows : List Row) → answer (begun rows) [] ≡ ended [] rows
unfolding clap_on_literals
begun_ended rows = refl

pub given_ended : (f : Flag) (v : Text) (rows : List Row) → answer (given f rows v) [] ≡ ended (use_fault false (rule_of f) (v ∷ []) rows) (used (rule_of f) (v ∷ []) rows)
unfolding clap_on_literals
given_ended Jobs v rows = refl
given_ended Stop v rows = refl
given_ended Retry v rows = refl
given_ended Mutations v rows = refl

-- an option without a value gives no command
pub waits_ended : (f : Flag) (rows : List Row) → answer (waits f rows) [] ≡ None
unfolding clap_on_literals
waits_ended Jobs rows = refl
waits_ended Stop rows = refl
waits_ended Retry rows = refl
waits_ended Mutations rows = refl

-- ---- no option has a default

same_if : {X : Type 0} (b : Bool) (x : X) → cond b x x ≡ x
same_if true x = refl
same_if false x = refl

no_default : (f : Flag) (rows : List Row) → with_default rows (rule_of f) ≡ rows
no_default Jobs rows = same_if (has_row (name_of Jobs) rows) rows
no_default Stop rows = same_if (has_row (name_of Stop) rows) rows
no_default Retry rows = same_if (has_row (name_of Retry) rows) rows
no_default Mutations rows = same_if (has_row (name_of Mutations) rows) rows

none_given : (f : Flag) (b : Bool) → cond (b || true) [] (given_default_fault (rule_of f) []) ≡ []
none_given f true = refl
none_given f false = refl

no_fault : (f : Flag) (rows : List Row) → default_fault rows (rule_of f) ≡ []
no_fault Jobs rows = none_given Jobs (has_row (name_of Jobs) rows)
no_fault Stop rows = none_given Stop (has_row (name_of Stop) rows)
no_fault Retry rows = none_given Retry (has_row (name_of Retry) rows)
no_fault Mutations rows = none_given Mutations (has_row (name_of Mutations) rows)

-- the rows as they are
defaults_none : (rows : List Row) → fold with_default rows run.rules ≡ rows
defaults_none rows =
    ap (λ (rs : List Row). with_default (with_default (with_default rs (rule_of Stop)) (rule_of Retry)) (rule_of Mutations)) (no_default Jobs rows)
    ∙ ap (λ (rs : List Row). with_default (with_default rs (rule_of Retry)) (rule_of Mutations)) (no_default Stop rows)
    ∙ ap (λ (rs : List Row). with_default rs (rule_of Mutations)) (no_default Retry rows) ∙ no_default Mutations rows

-- the rows behind the defaults of the options before
abbrev behind_jobs : List Row → List Row
behind_jobs rows = with_default rows (rule_of Jobs)

abbrev behind_stop : List Row → List Row
behind_stop rows = with_default (behind_jobs rows) (rule_of Stop)

abbrev behind_retry : List Row → List Row
behind_retry rows = with_default (behind_stop rows) (rule_of Retry)

-- and no fault
no_faults : (rows : List Row) → defaults_fault rows run.rules ≡ []
unfolding clap_on_literals
no_faults rows =
    ap₂ or_else (no_fault Jobs rows)
    (ap₂ or_else (no_fault Stop (behind_jobs rows))
    (ap₂ or_else (no_fault Retry (behind_stop rows)) (ap (λ (f : Kinds). or_else f []) (no_fault Mutations (behind_retry rows)))))

-- the words end between two options: what was found gives the command
pub all_read : (rows : List Row) → answer (begun rows) [] ≡ by_rows rows
all_read rows =
    begun_ended rows
    ∙ ap₂ (λ (f : Kinds) (rs : List Row). taken (or_else f (check_fault run rs false)) (by_rows rs)) (no_faults rows) (defaults_none rows)
