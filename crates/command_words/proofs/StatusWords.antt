-- The words behind `status`: none, or its flag once.
use Rattle.command_words.proofs.Common.{◌≡◌, ◌∙◌, ◌||◌, Bool, cond, true, false, true≢false, ap, subst, sym, refl, List, [], ◌∷◌, ◌++◌, Option, Some, None, inl, inr, codes, bytes_eq, list_any}
use Rattle.command_words.proofs.Common.{bytes_eq-Decides, Row, Text, Walk, first_of, idle, walked, Shape, filled, with_index, turn_fault, AsWritten, CommandLine, clap_on_literals, Asked, Status}
use Rattle.command_words.proofs.Common.{plainly, status_of, status_by, status_shape, strict_rule}
use Rattle.command_words.proofs.OptionWords.{IsNotLong, LongOrNot, long_alone, long_or_not, long_prefix}
use Rattle.command_words.proofs.RunTurns.{IsClean, IsWord, below}
use Rattle.command_words.proofs.Turns.{KnowsNot, at, dashes, holding, moves_to, refused_at, stray, verdict}

abbrev pub status : Shape
status = below status_shape

abbrev pub by_rows : List Row → Option Asked
by_rows rows = Some (status_by (first_of (codes "strict") rows))

abbrev pub answer : Walk → List Text → Option Asked
answer = verdict status by_rows

abbrev strict : Text
strict = codes "strict"

-- ---- the places: before the flag, and behind it

abbrev pub before : Walk
before = at 1 (holding [] None) idle

abbrev strict_row : Row
strict_row = record { id = strict; values = codes "true" ∷ []; count = None; source = Some CommandLine; reading = AsWritten }

abbrev behind : Walk
behind = at 1 (holding (strict_row ∷ []) None) idle

knows_not : (word : Text) → IsNotLong strict word → KnowsNot status word
knows_not word other = record {
  long = λ p e. ap (λ (b : Bool). cond (b || false) (Some (with_index 1 (filled strict_rule))) None) (other.long p e);
  short = λ flags e c first. refl;
}

-- ---- one word

other_refused : (rows : List Row) (word : Text) (rest : List Text) → IsNotLong strict word → IsWord word → answer (at 1 (holding rows None) idle) (word ∷ rest) ≡ None
other_refused rows word rest other is = refused_at status by_rows (at 1 (holding rows None) idle) word rest (stray status [] word rows None 1 (knows_not word other) refl is.no_dashes refl)

-- the flag takes no value
valued_refused : (rows : List Row) (value : Text) (rest : List Text) → answer (at 1 (holding rows None) idle) ((long_prefix strict ++ value) ∷ rest) ≡ None
unfolding clap_on_literals
valued_refused rows value rest = refused_at status by_rows (at 1 (holding rows None) idle) (long_prefix strict ++ value) rest tt

flag_turn : turn_fault status [] before (long_alone strict) ≡ []
unfolding clap_on_literals
flag_turn = refl

flag_walk : walked status.rules [] before (long_alone strict) ≡ behind
unfolding clap_on_literals
flag_walk = refl

-- it stands once
twice_refused : (rest : List Text) → answer behind (long_alone strict ∷ rest) ≡ None
unfolding clap_on_literals
twice_refused rest = refused_at status by_rows behind (long_alone strict) rest tt

-- nothing stands behind it
behind_none : (word : Text) (rest : List Text) → IsWord word → answer behind (word ∷ rest) ≡ None
behind_none word rest is = go (long_or_not strict word)
  where
    go : LongOrNot strict word → answer behind (word ∷ rest) ≡ None
    go (inl same) = subst (λ x. answer behind (x ∷ rest) ≡ None) (sym same) (twice_refused rest)
    go (inr (inl v)) = subst (λ x. answer behind (x ∷ rest) ≡ None) (sym v.1) (valued_refused (strict_row ∷ []) v.0 rest)
    go (inr (inr other)) = other_refused (strict_row ∷ []) word rest other is

-- ---- the end

plain_ended : answer before [] ≡ Some (plainly (Status false))
unfolding clap_on_literals
plain_ended = refl

strict_ended : answer behind [] ≡ Some (plainly (Status true))
unfolding clap_on_literals
strict_ended = refl

-- ---- all words behind `status`

-- a word alone that is not the flag is none of it
no_flag : (word : Text) → bytes_eq word (long_alone strict) ≡ false → status_of (word ∷ []) ≡ None
no_flag word other = ap (λ (b : Bool). cond b (Some (plainly (Status true))) None) other

at_flag : (rest : List Text) → IsClean rest → answer before (long_alone strict ∷ rest) ≡ status_of (long_alone strict ∷ rest)
at_flag [] clean = moves_to status by_rows before (long_alone strict) [] behind flag_turn flag_walk ∙ strict_ended
at_flag (word ∷ rest) clean = moves_to status by_rows before (long_alone strict) (word ∷ rest) behind flag_turn flag_walk ∙ behind_none word rest clean.0

at_value : (value : Text) (rest : List Text) → answer before ((long_prefix strict ++ value) ∷ rest) ≡ status_of ((long_prefix strict ++ value) ∷ rest)
at_value value [] = valued_refused [] value []
at_value value (word ∷ rest) = valued_refused [] value (word ∷ rest)

at_other : (word : Text) (rest : List Text) → IsNotLong strict word → IsWord word → answer before (word ∷ rest) ≡ status_of (word ∷ rest)
at_other word [] other is = other_refused [] word [] other is ∙ sym (no_flag word other.not_alone)
at_other word (next ∷ rest) other is = other_refused [] word (next ∷ rest) other is

pub status_words : (words : List Text) → IsClean words → answer before words ≡ status_of words
status_words [] clean = plain_ended
status_words (word ∷ rest) clean = go (long_or_not strict word)
  where
    go : LongOrNot strict word → answer before (word ∷ rest) ≡ status_of (word ∷ rest)
    go (inl same) = subst (λ x. answer before (x ∷ rest) ≡ status_of (x ∷ rest)) (sym same) (at_flag rest clean.1)
    go (inr (inl v)) = subst (λ x. answer before (x ∷ rest) ≡ status_of (x ∷ rest)) (sym v.1) (at_value v.0 rest)
    go (inr (inr other)) = at_other word rest other clean.0

-- ---- words with `--`

-- they give no command
pub dashes_none : (words : List Text) → list_any (λ word. bytes_eq word dashes) words ≡ true → None ≡ status_of words
dashes_none [] e = absurd (true≢false (sym e))
dashes_none (word ∷ next ∷ rest) e = refl
dashes_none (word ∷ []) e = go (bytes_eq word dashes) refl e
  where
    go : (b : Bool) → bytes_eq word dashes ≡ b → (b || false) ≡ true → None ≡ status_of (word ∷ [])
    go true same h = subst (λ x. None ≡ status_of (x ∷ [])) (sym ((bytes_eq-Decides word dashes).0 same)) refl
    go false other never = absurd (true≢false (sym never))
