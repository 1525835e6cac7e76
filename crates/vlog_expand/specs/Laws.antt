-- Laws of what files come to.
use Rattle.std.specs.Prelude.{◌≡◌, ℕ, List, []}
use Rattle.mcy_base.specs.declared.span.Span.{Span}
use Rattle.vlog_token.specs.declared.token.Token.{Token}
use Rattle.vlog_expand.specs.Uses.{Outcome}
use Rattle.vlog_expand.specs.Moves.{State, Passes}
use Rattle.vlog_expand.specs.Files.{Comes, Leads, Shows, start, turn}

-- From a place on, a file comes to one outcome under a limit.
abbrev pub FilesComeToOneOutcome : Type 0
FilesComeToOneOutcome = (end : Span) (s : State) (n : ℕ) (o p : Outcome) → Comes end s n o → Comes end s n p → o ≡ p

-- the places to which one place leads
pub data IsReached : Span → State → State → Type 0 where
  here : {end : Span} {s : State} → IsReached end s s
  behind_token : {end : Span} {s at next : State} {t : Token} → IsReached end s at → turn end at ≡ Shows t next → IsReached end s next
  behind_directive : {end : Span} {s at next : State} → IsReached end s at → turn end at ≡ Leads (Passes next) → IsReached end s next

-- Where a file is read to its end, no condition is open there.
abbrev pub ConditionsHaveTheirEnds : Type 0
ConditionsHaveTheirEnds = (end : Span) (tokens : List Token) (s : State) → IsReached end (start tokens) s → s.rest ≡ [] → s.conditions ≡ []
