-- What a file of bare tokens comes to.
use Rattle.seen_tokens.proofs.Common.{◌≡◌, ℕ, Bool, List, [], ◌∷◌, map, inl, inr, refl, ap, subst, ◌∙◌, Span, Token, ParseError, is_shown, word_of, Definitions, no_macros, bare}
use Rattle.vlog_expand.specs.Moves.{State, Passes, Stops, move_by}
use Rattle.vlog_expand.specs.Uses.{Outcome, Gives, Refuses}
use Rattle.vlog_expand.specs.Files.{Comes, ends, stops, passes, refuses, shows, IsCarriedOut, IsRefused, Turn, Ends, Shows, Leads, start, turn, turn_at}
use Rattle.seen_tokens.proofs.BareTexts.{chosen}
use Rattle.seen_tokens.proofs.BareMoves.{bare_macros, bare_move, bare_state, move_bare}
use Rattle.seen_tokens.proofs.BareUses.{bare_outcome, behind_bare, expanded_bare}

abbrev bare_turn : Turn → Turn
bare_turn Ends = Ends
bare_turn (Shows t s) = Shows (bare t) (bare_state s)
bare_turn (Leads m) = Leads (bare_move m)

turn_at_bare : (end : Span) (macros : Definitions) (conditions : List Bool) (ts : List Token) → turn_at end (bare_macros macros) conditions (map bare ts) ≡ bare_turn (turn_at end macros conditions ts)
unfolding word_of
turn_at_bare end macros conditions [] = refl
turn_at_bare end macros conditions (t ∷ ts) =
    chosen bare_turn (is_shown (word_of t)) (Shows t (record { macros = macros; conditions = conditions; rest = ts })) (Leads (move_by (word_of t) end macros conditions t ts)) _ _ refl (ap Leads (move_bare (word_of t) end macros conditions t ts))

turn_bare : (end : Span) (s : State) (x : Turn) → turn end s ≡ x → turn end (bare_state s) ≡ bare_turn x
unfolding turn
turn_bare end s x is = turn_at_bare end s.macros s.conditions s.rest ∙ ap bare_turn is

pub comes_bare : {end : Span} {s : State} {n : ℕ} {o : Outcome} → Comes end s n o → Comes end (bare_state s) n (bare_outcome o)
comes_bare {end} {s} {n} {o} (ends a) = ends (turn_bare end s Ends a)
comes_bare {end} {s} {n} {o} (stops {e = e} a) = stops (turn_bare end s (Leads (Stops e)) a)
comes_bare {end} {s} {n} {o} (passes {next = next} a c) = passes (turn_bare end s (Leads (Passes next)) a) (comes_bare c)
comes_bare {end} {s} {n} {o} (refuses {next = next} {t = t} a x) = refuses (turn_bare end s (Shows t next) a) (expanded_bare 16 s.macros t n ∙ ap bare_outcome x)
comes_bare {end} {s} {n} {o} (shows {next = next} {t = t} {ts = ts} {o = p} a x c) =
    subst (Comes end (bare_state s) n) (behind_bare ts p) (shows (turn_bare end s (Shows t next) a) (expanded_bare 16 s.macros t n ∙ ap bare_outcome x) (comes_bare c))

no_macros_bare : bare_macros no_macros ≡ no_macros
unfolding no_macros
no_macros_bare = refl

begun_bare : (end : Span) (ts : List Token) (n : ℕ) (o : Outcome) → Comes end (start ts) n o → Comes end (start (map bare ts)) n (bare_outcome o)
begun_bare end ts n o comes = subst (λ (m : Definitions). Comes end (record { macros = m; conditions = []; rest = map bare ts }) n (bare_outcome o)) no_macros_bare (comes_bare comes)

pub carried_out_bare : (end : Span) (tokens given : List Token) (limit left : ℕ) → IsCarriedOut end tokens limit given left → IsCarriedOut end (map bare tokens) limit (map bare given) left
carried_out_bare end tokens given limit left comes = begun_bare end tokens limit (Gives given left) comes

pub refused_bare : (end : Span) (tokens : List Token) (limit : ℕ) (error : ParseError) → IsRefused end (start tokens) limit error → IsRefused end (start (map bare tokens)) limit error
refused_bare end tokens limit error (inl memory) = inl memory
refused_bare end tokens limit error (inr comes) = inr (begun_bare end tokens limit (Refuses error) comes)
