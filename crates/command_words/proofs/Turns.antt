-- One word at a time: a word that names no flag is refused, or it is what it is without flags.
use Rattle.command_words.proofs.Common.{◌≡◌, ◌∙◌, ℕ, Bool, cond, true, false, zero, suc, refl, sym, ap, ap₂, subst, List, [], ◌∷◌, drop, length, Option, Some, None, inl, inr, ◌⊎◌, ⊤, bytes_eq}
use Rattle.command_words.proofs.Common.{encode_utf8, slice_get, option_map_or, fold, long_of, short_of, Held, Names, Row, Step, Text, Waiting, Walk, after_flag, after_step, arg_by_index, arg_by_long}
use Rattle.command_words.proofs.Common.{arg_by_short, bundle_met, bundle_step, finished, idle, long_or_other, plain, plain_word, settled, short_or_plain, subcommand_met, subcommand_or_other}
use Rattle.command_words.proofs.Common.{to_positional, trailing, value, walked, word_met, Shape, Kinds, or_else, bundle_fault, bundle_step_fault, check_fault, defaults_fault, flag_word_fault}
use Rattle.command_words.proofs.Common.{flags_fault, long_fault, other_fault, positional_fault, settle_fault, short_fault, step_fault, stray_fault, turn_fault, walk_fault, word_fault}
use Rattle.std.specs.Str.{chars}
use Rattle.clap.specs.declared.error.ErrorKind.TheVariants.{UnknownArgument, InvalidSubcommand}
use Rattle.command_words.proofs.WordParts.{long_parts, short_parts}

abbrev pub dashes : Text
dashes = 45 ∷ 45 ∷ []

-- ---- refusals

abbrev pub IsRefused : Kinds → Type 0
IsRefused [] = ⊥
IsRefused (k ∷ ks) = ⊤

pub or_refused : (f g : Kinds) → IsRefused f → IsRefused (or_else f g)
or_refused [] g h = absurd h
or_refused (k ∷ ks) g h = tt

-- what is answered where these kinds are the fault
abbrev pub taken : {C : Type 0} → Kinds → Option C → Option C
taken [] command = command
taken (k ∷ ks) command = None

pub taken_refused : {C : Type 0} (f g : Kinds) (command : Option C) → IsRefused f → taken (or_else f g) command ≡ None
taken_refused [] g command h = absurd h
taken_refused (k ∷ ks) g command h = refl

pub taken_last : {C : Type 0} (f : Kinds) (command : Option C) → taken (or_else f []) command ≡ taken f command
taken_last [] command = refl
taken_last (k ∷ ks) command = refl

stray_refused : (s : Shape) → IsRefused (stray_fault s)
stray_refused s = go s.is_leaf
  where
    go : (b : Bool) → IsRefused (cond b (UnknownArgument ∷ []) (UnknownArgument ∷ InvalidSubcommand ∷ []))
    go true = tt
    go false = tt

-- ---- a word that names no flag

-- the command has no flag of the word's name
pub record KnowsNot (s : Shape) (word : Text) : Type 0 where
  pub long : (p : Text × Option Text) → long_of word ≡ Some p → arg_by_long s.rules p.0 ≡ None
  pub short : (flags : Text) → short_of word ≡ Some flags → (c : ℕ) → slice_get (chars flags) 0 ≡ Some c → arg_by_short s.rules c ≡ None

abbrev pub Begins : Text → Type 0
Begins word = (rest : Text) × (word ≡ 45 ∷ rest)

abbrev pub holding : List Row → Option (Text × List Text) → Held
holding rows pending = record { rows = rows; pending = pending; skip = 0 }

abbrev pub at : ℕ → Held → Waiting → Walk
at position h waiting = record { held = h; waiting = waiting; position = position; is_trailing = false; stopped = None }

module _ (s : Shape) (waiting : Waiting) (word : Text) (rows : List Row) (pending : Option (Text × List Text)) (knows : KnowsNot s word) where
  abbrev h : Held
  h = holding rows pending

  abbrev IsMet : Kinds → Held × Step → Type 0
  IsMet fault met = (IsRefused fault × Begins word) ⊎ ((fault ≡ []) × (met ≡ plain_word s.rules waiting word h))

  abbrev NoShort : Option ℕ → Type 0
  NoShort c = (x : ℕ) → c ≡ Some x → arg_by_short s.rules x ≡ None

  flag_met : (begins : Begins word) (k : ℕ) (flags : Text) (c : Option ℕ) → NoShort c
      → IsMet (bundle_step_fault s.rules s.args_override_self c flags 0 h (flags_fault s.rules s.args_override_self k))
      (after_flag s.rules waiting word (bundle_step s.rules c flags 0 plain h (bundle_met s.rules k)).0 (bundle_step s.rules c flags 0 plain h (bundle_met s.rules k)).1)
  flag_met begins k flags None none = inr (refl, refl)
  flag_met begins k flags (Some x) none =
      let rest = drop (length (encode_utf8 x)) flags in
      inl (subst (λ a. IsRefused (short_fault s.rules s.args_override_self a rest h (flags_fault s.rules s.args_override_self k rest 0))) (sym (none x refl)) tt, begins)

  flags_met : (begins : Begins word) (n : ℕ) (flags : Text) → NoShort (slice_get (chars flags) 0)
      → IsMet (flags_fault s.rules s.args_override_self n flags 0 h)
      (after_flag s.rules waiting word (bundle_met s.rules n flags 0 plain h).0 (bundle_met s.rules n flags 0 plain h).1)
  unfolding flags_fault bundle_met
  flags_met begins zero flags none = inr (refl, refl)
  flags_met begins (suc k) flags none = flag_met begins k flags (slice_get (chars flags) 0) none

  short_met : (o : Option Text) → short_of word ≡ o → IsMet (option_map_or (λ flags. bundle_fault s.rules s.args_override_self flags h) o []) (short_or_plain s.rules waiting word o h)
  short_met None e = inr (refl, refl)
  short_met (Some flags) e = flags_met (flags, short_parts word flags e) (length flags) flags (knows.short flags e)

  long_met : (o : Option (Text × Option Text)) → long_of word ≡ o → IsMet (flag_word_fault s.rules s.args_override_self o word h) (long_or_other s.rules waiting word o h)
  long_met None e = short_met (short_of word) refl
  long_met (Some p) e =
      let parts = long_parts word p e in
      inl (subst (λ a. IsRefused (long_fault s.rules s.args_override_self a p.1 h)) (sym (knows.long p e)) tt, (45 ∷ parts.0, parts.1))

  pub word_is_met : (names : Names) (position : ℕ) → subcommand_met names waiting word ≡ None → bytes_eq word dashes ≡ false
      → IsMet (word_fault s names false waiting word h) (word_met s.rules names false waiting position word h)
  word_is_met names position none dash =
      subst (λ m. IsMet (other_fault s m word h) (subcommand_or_other s.rules m waiting position word h)) (sym none)
      (subst (λ b. IsMet (cond b [] (flag_word_fault s.rules s.args_override_self (long_of word) word h)) (cond b (h, trailing position) (long_or_other s.rules waiting word (long_of word) h))) (sym dash)
      (long_met (long_of word) refl))

-- ---- a word where nothing waits for a value

module _ (s : Shape) (word : Text) (h : Held) (position : ℕ) (fault : Kinds) (met : Held × Step) where
  abbrev all_fault : Kinds
  all_fault = or_else fault (step_fault s position met.0 met.1)

  abbrev pub IsIdleMet : Type 0
  IsIdleMet = (IsRefused all_fault × Begins word) ⊎ ((all_fault ≡ step_fault s position h value) × (met ≡ (h, value)))

  -- it is refused, or goes to the positional of its place
  idle_met : (IsRefused fault × Begins word) ⊎ ((fault ≡ []) × (met ≡ plain_word s.rules idle word h)) → IsIdleMet
  idle_met (inl r) = inl (or_refused fault (step_fault s position met.0 met.1) r.0, r.1)
  idle_met (inr r) = inr (ap₂ (λ (f : Kinds) (m : Held × Step). or_else f (step_fault s position m.0 m.1)) r.0 r.1, r.1)

  -- and it is refused where there is none
  met_none : IsIdleMet → arg_by_index s.rules position ≡ None → IsRefused all_fault
  met_none (inl r) index = r.0
  met_none (inr r) index =
      subst IsRefused (sym r.0)
      (subst (λ a. IsRefused (option_map_or (λ x. positional_fault s.rules s.args_override_self x h) a (stray_fault s))) (sym index) (stray_refused s))

module _ (s : Shape) (names : Names) (word : Text) (rows : List Row) (pending : Option (Text × List Text)) (position : ℕ) (knows : KnowsNot s word) (none : subcommand_met names idle word ≡ None) (dash : bytes_eq word dashes ≡ false) where
  abbrev here : Held
  here = holding rows pending

  abbrev word_here : Kinds
  word_here = word_fault s names false idle word here

  abbrev met_here : Held × Step
  met_here = word_met s.rules names false idle position word here

  is_met : IsIdleMet s word here position word_here met_here
  is_met = idle_met s word here position word_here met_here (word_is_met s idle word rows pending knows names position none dash)

  pub stray : arg_by_index s.rules position ≡ None → IsRefused (turn_fault s names (at position here idle) word)
  stray index = met_none s word here position word_here met_here is_met index

  abbrev pub IsPlaced : Type 0
  IsPlaced = (IsRefused (turn_fault s names (at position here idle) word) × Begins word)
      ⊎ ((turn_fault s names (at position here idle) word ≡ step_fault s position here value)
      × (walked s.rules names (at position here idle) word ≡ to_positional s.rules (arg_by_index s.rules position) word (at position here idle) here))

  by_place : IsIdleMet s word here position word_here met_here → IsPlaced
  unfolding walked
  by_place (inl r) = inl r
  by_place (inr r) = inr (r.0, ap (λ (m : Held × Step). after_step s.rules word (at position here idle) m.0 m.1) r.1)

  -- it is refused, or a value of the positional of its place
  pub placed : IsPlaced
  placed = by_place is_met

-- ---- a level of the parse, word by word

-- the faults of the end
abbrev pub end_fault : Shape → Held → Bool → Kinds
end_fault s h has_subcommand =
    or_else (settle_fault s.rules s.args_override_self h)
    (or_else (defaults_fault (settled s.rules h).rows s.rules) (check_fault s (finished s.rules h) has_subcommand))

-- what the words behind a subcommand give, from this place on, where its rows give `command`
abbrev pub verdict : {C : Type 0} → Shape → (List Row → Option C) → Walk → List Text → Option C
verdict s command w words =
    taken (or_else (walk_fault s [] w words) (end_fault s (fold (walked s.rules []) w words).held false)) (command (finished s.rules (fold (walked s.rules []) w words).held))

module _ {C : Type 0} (s : Shape) (command : List Row → Option C) (w : Walk) (word : Text) (rest : List Text) where
  abbrev with_turn : Kinds → Walk → Option C
  with_turn f next =
      taken (or_else (or_else f (walk_fault s [] next rest)) (end_fault s (fold (walked s.rules []) next rest).held false))
      (command (finished s.rules (fold (walked s.rules []) next rest).held))

  turn_first : verdict s command w (word ∷ rest) ≡ with_turn (turn_fault s [] w word) (walked s.rules [] w word)
  unfolding walk_fault
  turn_first = refl

  pub refused_at : IsRefused (turn_fault s [] w word) → verdict s command w (word ∷ rest) ≡ None
  refused_at h = turn_first ∙ taken_refused (or_else (turn_fault s [] w word) (walk_fault s [] (walked s.rules [] w word) rest)) _ _ (or_refused (turn_fault s [] w word) _ h)

  pub moves_to : (next : Walk) → turn_fault s [] w word ≡ [] → walked s.rules [] w word ≡ next → verdict s command w (word ∷ rest) ≡ verdict s command next rest
  moves_to next none step = turn_first ∙ ap (λ f. with_turn f (walked s.rules [] w word)) none ∙ ap (λ v. with_turn [] v) step

-- two places at which a word does the same
pub same_turn : {C : Type 0} (s : Shape) (command : List Row → Option C) (v w : Walk) (word : Text) (rest : List Text) → turn_fault s [] v word ≡ turn_fault s [] w word → walked s.rules [] v word ≡ walked s.rules [] w word
    → verdict s command v (word ∷ rest) ≡ verdict s command w (word ∷ rest)
same_turn s command v w word rest fault step =
    turn_first s command v word rest ∙ ap₂ (λ (f : Kinds) (next : Walk). with_turn s command v word rest f next) fault step ∙ sym (turn_first s command w word rest)
