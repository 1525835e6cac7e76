-- What a file comes to when its directives are carried out one after the other.
use Rattle.std.specs.Prelude.{◌≡◌, ◌⊎◌, ℕ, Bool, List, [], ◌∷◌, if◌then◌else◌}
use Rattle.mcy_base.specs.declared.span.Span.{Span}
use Rattle.vlog_token.specs.declared.token.Token.{Token}
use Rattle.vlog_expand.specs.declared.error.ParseError.{ParseError}
use Rattle.vlog_expand.specs.declared.error.ParseError.TheVariants.{Memory}
use Rattle.vlog_expand.specs.Words.{is_shown, word_of}
use Rattle.vlog_expand.specs.Definitions.{Definitions, no_macros}
use Rattle.vlog_expand.specs.Uses.{Outcome, Gives, Refuses, behind, expanded}
use Rattle.vlog_expand.specs.Moves.{State, Move, Passes, Stops, move_by}

-- what stands at a place: the file's end, a token or a use of a macro with the place behind it, or a directive
pub data Turn : Type 0 where
  Ends : Turn
  Shows : Token → State → Turn
  Leads : Move → Turn

abbrev pub turn_at : Span → Definitions → List Bool → List Token → Turn
turn_at end macros conditions [] = Ends
turn_at end macros conditions (t ∷ ts) =
    if is_shown (word_of t)
    then Shows t (record { macros = macros; conditions = conditions; rest = ts })
    else Leads (move_by (word_of t) end macros conditions t ts)

unfoldable pub turn : Span → State → Turn
turn end s = turn_at end s.macros s.conditions s.rest

-- What a file comes to from a place on, under a limit. A macro is used by its text at the place of the use, and
-- uses stand in one another at most 16 deep.
pub data Comes : Span → State → ℕ → Outcome → Type 0 where
  ends : {end : Span} {s : State} {n : ℕ} → turn end s ≡ Ends → Comes end s n (Gives [] n)
  stops : {end : Span} {s : State} {n : ℕ} {e : ParseError} → turn end s ≡ Leads (Stops e) → Comes end s n (Refuses e)
  passes : {end : Span} {s next : State} {n : ℕ} {o : Outcome} → turn end s ≡ Leads (Passes next) → Comes end next n o → Comes end s n o
  refuses : {end : Span} {s next : State} {n : ℕ} {t : Token} {e : ParseError} → turn end s ≡ Shows t next → expanded 16 s.macros t n ≡ Refuses e → Comes end s n (Refuses e)
  shows : {end : Span} {s next : State} {n m : ℕ} {t : Token} {ts : List Token} {o : Outcome} → turn end s ≡ Shows t next → expanded 16 s.macros t n ≡ Gives ts m → Comes end next m o → Comes end s n (behind ts o)

-- the place where a file begins
abbrev pub start : List Token → State
start ts = record { macros = no_macros; conditions = []; rest = ts }

-- The directives of the file are carried out: it gives these tokens, and so much is left of the limit.
abbrev pub IsCarriedOut : Span → List Token → ℕ → List Token → ℕ → Type 0
IsCarriedOut end tokens limit given left = Comes end (start tokens) limit (Gives given left)

-- The file is refused so, or there was no memory.
abbrev pub IsRefused : Span → State → ℕ → ParseError → Type 0
IsRefused end s n e = (e ≡ Memory) ⊎ Comes end s n (Refuses e)

-- For proofs alone.

-- With these tokens given before, the file comes to the outcome from the place on.
abbrev pub ComesBehind : List Token → Span → State → ℕ → Outcome → Type 0
ComesBehind before end s n o = (p : Outcome) × Comes end s n p × (behind before p ≡ o)

-- Whatever the file comes to from a later place on, it comes to from the earlier one on, behind what was given between.
abbrev pub LeadsOn : List Token → Span → State → ℕ → List Token → State → ℕ → Type 0
LeadsOn before end s n given next m = (o : Outcome) → Comes end next m o → ComesBehind before end s n (behind given o)
