-- The options behind `run`, one after the other: a value behind its option, and an option with its value.
use Rattle.command_words.proofs.Common.{◌≡◌, ◌∙◌, Bool, true, false, sym, ap, ap₂, subst, List, [], ◌∷◌, ◌++◌, Option, Some, None, inl, inr, refl, ◌⊎◌, Held, Row, Step, Text, after_step, has_row}
use Rattle.command_words.proofs.Common.{idle, next, option, plain_word, settled, used, walked, word_met, Kinds, or_else, settle_fault, step_fault, turn_fault, use_fault, word_fault, clap_on_literals}
use Rattle.command_words.proofs.FoundRows.{row}
use Rattle.command_words.proofs.OptionWords.{Flag, IsAlone, IsJoined, IsOther, Joined, alone, alone_begins, flag_in, joined, joined_begins, name_of, option_or_other, value_in}
use Rattle.command_words.proofs.RunEnds.{begun_ended, ended, given_ended}
use Rattle.command_words.proofs.RunTurns.{IsClean, alone_turn, alone_walk, answer, begun, by_rows, further, given, joined_fault, joined_refused, joined_turn, joined_walk, knows_not, other_refused}
use Rattle.command_words.proofs.RunTurns.{rule_of, run, settle_given, settled_given, use_refused, use_taken, used_first, waits, waits_alone_refused, waits_joined_refused, waits_plain}
use Rattle.command_words.proofs.Turns.{Begins, IsRefused, holding, moves_to, or_refused, refused_at, same_turn, taken_refused, word_is_met}

-- ---- a value behind its option

module _ (f : Flag) (v : Text) (rows : List Row) where
  abbrev pending : Option (Text × List Text)
  pending = Some (name_of f, v ∷ [])

  abbrev taken_rows : List Row
  taken_rows = rows ++ row f v ∷ []

  -- it is refused where the option has one
  settle_refused : has_row (name_of f) rows ≡ true → IsRefused (settle_fault run.rules false (holding rows pending))
  settle_refused there = subst IsRefused (sym (settle_given f v rows)) (use_refused f v rows there)

  twice_joined : has_row (name_of f) rows ≡ true → (g : Joined) → IsRefused (turn_fault run [] (given f rows v) (joined g))
  twice_joined there g =
      subst IsRefused (sym (joined_turn rows pending idle g))
      (joined_refused (flag_in g) (value_in g) (settle_fault run.rules false (holding rows pending)) (settled run.rules (holding rows pending)).rows (settle_refused there))

  twice_alone : has_row (name_of f) rows ≡ true → (g : Flag) → IsRefused (turn_fault run [] (given f rows v) (alone g))
  twice_alone there g = subst IsRefused (sym (alone_turn rows pending idle g)) (or_refused (settle_fault run.rules false (holding rows pending)) [] (settle_refused there))

  -- and adds a row where it has none
  settle_taken : has_row (name_of f) rows ≡ false → settle_fault run.rules false (holding rows pending) ≡ []
  settle_taken none = settle_given f v rows ∙ use_taken f v rows none

  settled_first : has_row (name_of f) rows ≡ false → (settled run.rules (holding rows pending)).rows ≡ taken_rows
  settled_first none = settled_given f v rows ∙ used_first f v rows none

  abbrev IsSame : Text → Type 0
  IsSame word = (turn_fault run [] (given f rows v) word ≡ turn_fault run [] (begun taken_rows) word) × (walked run.rules [] (given f rows v) word ≡ walked run.rules [] (begun taken_rows) word)

  once_joined : has_row (name_of f) rows ≡ false → (g : Joined) → IsSame (joined g)
  once_joined none g = (
    joined_turn rows pending idle g ∙ ap₂ (joined_fault (flag_in g) (value_in g)) (settle_taken none) (settled_first none) ∙ sym (joined_turn taken_rows None idle g),
    joined_walk rows pending g ∙ ap (λ (rs : List Row). begun (used (rule_of (flag_in g)) (value_in g ∷ []) rs)) (settled_first none) ∙ sym (joined_walk taken_rows None g),
  )

  once_alone : has_row (name_of f) rows ≡ false → (g : Flag) → IsSame (alone g)
  once_alone none g = (
    alone_turn rows pending idle g ∙ ap (λ (k : Kinds). or_else k []) (settle_taken none) ∙ sym (alone_turn taken_rows None idle g),
    alone_walk rows pending g ∙ ap (waits g) (settled_first none) ∙ sym (alone_walk taken_rows None g),
  )

-- it is taken over before whatever comes next
taken_over : (f : Flag) (v : Text) (rows : List Row) (words : List Text) → IsClean words → (b : Bool) → has_row (name_of f) rows ≡ b → answer (given f rows v) words ≡ further b (rows ++ row f v ∷ []) words
taken_over f v rows [] clean true there =
    given_ended f v rows ∙ taken_refused (use_fault false (rule_of f) (v ∷ []) rows) _ _ (use_refused f v rows there)
taken_over f v rows [] clean false none =
    given_ended f v rows ∙ ap₂ ended (use_taken f v rows none) (used_first f v rows none) ∙ sym (begun_ended (rows ++ row f v ∷ []))
taken_over f v rows (word ∷ rest) clean true there = go (option_or_other word clean.0.text)
  where
    refused : (is : Text) → word ≡ is → IsRefused (turn_fault run [] (given f rows v) is) → answer (given f rows v) (word ∷ rest) ≡ None
    refused is same h = refused_at run by_rows (given f rows v) word rest (subst (λ x. IsRefused (turn_fault run [] (given f rows v) x)) (sym same) h)

    go : IsAlone word ⊎ (IsJoined word ⊎ IsOther word) → answer (given f rows v) (word ∷ rest) ≡ None
    go (inl is) = refused (alone is.0) is.1 (twice_alone f v rows there is.0)
    go (inr (inl is)) = refused (joined is.0) is.1 (twice_joined f v rows there is.0)
    go (inr (inr other)) = other_refused rows (Some (name_of f, v ∷ [])) word rest other clean.0.no_dashes
taken_over f v rows (word ∷ rest) clean false none = go (option_or_other word clean.0.text)
  where
    both : (is : Text) → word ≡ is → (turn_fault run [] (given f rows v) is ≡ turn_fault run [] (begun (rows ++ row f v ∷ [])) is)
        × (walked run.rules [] (given f rows v) is ≡ walked run.rules [] (begun (rows ++ row f v ∷ [])) is) → answer (given f rows v) (word ∷ rest) ≡ answer (begun (rows ++ row f v ∷ [])) (word ∷ rest)
    both is word_is h =
        subst (λ x. answer (given f rows v) (x ∷ rest) ≡ answer (begun (rows ++ row f v ∷ [])) (x ∷ rest)) (sym word_is)
        (same_turn run by_rows (given f rows v) (begun (rows ++ row f v ∷ [])) is rest h.0 h.1)

    go : IsAlone word ⊎ (IsJoined word ⊎ IsOther word) → answer (given f rows v) (word ∷ rest) ≡ answer (begun (rows ++ row f v ∷ [])) (word ∷ rest)
    go (inl is) = both (alone is.0) is.1 (once_alone f v rows none is.0)
    go (inr (inl is)) = both (joined is.0) is.1 (once_joined f v rows none is.0)
    go (inr (inr other)) =
        other_refused rows (Some (name_of f, v ∷ [])) word rest other clean.0.no_dashes ∙ sym (other_refused (rows ++ row f v ∷ []) None word rest other clean.0.no_dashes)

-- a plain word behind an option that waits is its value
value_moves : (f : Flag) (v : Text) (rows : List Row) (rest : List Text) → word_fault run [] false (option (name_of f)) v (holding rows (Some (name_of f, []))) ≡ []
    → word_met run.rules [] false (option (name_of f)) 1 v (holding rows (Some (name_of f, []))) ≡ (holding rows (Some (name_of f, v ∷ [])), next idle) → answer (waits f rows) (v ∷ rest) ≡ answer (given f rows v) rest
unfolding clap_on_literals
value_moves f v rows rest none is =
    moves_to run by_rows (waits f rows) v rest (given f rows v) (ap₂ (λ (k : Kinds) (m : Held × Step). or_else k (step_fault run 1 m.0 m.1)) none is)
    (ap (λ (m : Held × Step). after_step run.rules v (waits f rows) m.0 m.1) is)

-- ---- an option between two options

-- with its value
pub joined_read : (g : Joined) (rows : List Row) (rest : List Text) (b : Bool) → has_row (name_of (flag_in g)) rows ≡ b
    → answer (begun rows) (joined g ∷ rest) ≡ further b (rows ++ row (flag_in g) (value_in g) ∷ []) rest
joined_read g rows rest true there =
    refused_at run by_rows (begun rows) (joined g) rest
    (subst IsRefused (sym (joined_turn rows None idle g)) (or_refused (use_fault false (rule_of (flag_in g)) (value_in g ∷ []) rows) [] (use_refused (flag_in g) (value_in g) rows there)))
joined_read g rows rest false none =
    moves_to run by_rows (begun rows) (joined g) rest (begun (rows ++ row (flag_in g) (value_in g) ∷ []))
    (joined_turn rows None idle g ∙ ap (λ (k : Kinds). or_else k []) (use_taken (flag_in g) (value_in g) rows none))
    (joined_walk rows None g ∙ ap begun (used_first (flag_in g) (value_in g) rows none))

-- without one: the next word is its value
pub alone_read : (f : Flag) (rows : List Row) (rest : List Text) → answer (begun rows) (alone f ∷ rest) ≡ answer (waits f rows) rest
alone_read f rows rest = moves_to run by_rows (begun rows) (alone f) rest (waits f rows) (alone_turn rows None idle f) (alone_walk rows None f)

-- unless it begins with a hyphen and is refused
abbrev pub ValueRead : Flag → Text → List Row → List Text → Bool → Type 0
ValueRead f v rows rest b = ((answer (waits f rows) (v ∷ rest) ≡ None) × Begins v) ⊎ (answer (waits f rows) (v ∷ rest) ≡ further b (rows ++ row f v ∷ []) rest)

abbrev waiting_fault : Flag → Text → List Row → Kinds
waiting_fault f v rows = word_fault run [] false (option (name_of f)) v (holding rows (Some (name_of f, [])))

abbrev waiting_met : Flag → Text → List Row → Held × Step
waiting_met f v rows = word_met run.rules [] false (option (name_of f)) 1 v (holding rows (Some (name_of f, [])))

pub value_read : (f : Flag) (v : Text) (rows : List Row) (rest : List Text) → IsClean (v ∷ rest) → (b : Bool) → has_row (name_of f) rows ≡ b → ValueRead f v rows rest b
value_read f v rows rest clean b has = go (option_or_other v clean.0.text)
  where
    refused : (is : Text) → v ≡ is → IsRefused (turn_fault run [] (waits f rows) is) → answer (waits f rows) (v ∷ rest) ≡ None
    refused is same h = refused_at run by_rows (waits f rows) v rest (subst (λ x. IsRefused (turn_fault run [] (waits f rows) x)) (sym same) h)

    by : (IsRefused (waiting_fault f v rows) × Begins v) ⊎ ((waiting_fault f v rows ≡ []) × (waiting_met f v rows ≡ plain_word run.rules (option (name_of f)) v (holding rows (Some (name_of f, []))))) → ValueRead f v rows rest b
    by (inl r) = inl (refused_at run by_rows (waits f rows) v rest (or_refused (waiting_fault f v rows) (step_fault run 1 (waiting_met f v rows).0 (waiting_met f v rows).1) r.0), r.1)
    by (inr r) = inr (value_moves f v rows rest r.0 (r.1 ∙ waits_plain f v rows) ∙ taken_over f v rows rest clean.1 b has)

    go : IsAlone v ⊎ (IsJoined v ⊎ IsOther v) → ValueRead f v rows rest b
    go (inl is) = let begins = alone_begins is.0 in inl (refused (alone is.0) is.1 (waits_alone_refused f is.0 rows), (begins.0, is.1 ∙ begins.1))
    go (inr (inl is)) = let begins = joined_begins is.0 in inl (refused (joined is.0) is.1 (waits_joined_refused f is.0 rows), (begins.0, is.1 ∙ begins.1))
    go (inr (inr other)) = by (word_is_met run (option (name_of f)) v rows (Some (name_of f, [])) (knows_not v other) [] 1 refl clean.0.no_dashes)
