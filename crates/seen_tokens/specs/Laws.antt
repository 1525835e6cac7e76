-- Laws of tokens: what is read of them depends on what is seen of them.
use Rattle.std.specs.Prelude.{ℕ, List, map}
use Rattle.mcy_base.specs.declared.span.Span.{Span}
use Rattle.vlog_token.specs.declared.token.Token.{Token}
use Rattle.vlog_syntax.specs.declared.module.Module.{Module}
use Rattle.vlog_expand.specs.declared.error.ParseError.{ParseError}
use Rattle.vlog_expand.specs.Files.{IsCarriedOut, IsRefused, start}
use Rattle.vlog_parse.specs.Parsing.{AreParsed, IsFault}
use Rattle.seen_tokens.specs.Bare.{bare}

-- What a file's directives give is given of bare tokens, as bare tokens,
abbrev pub GivenTokensGoByWhatIsSeen : Type 0
GivenTokensGoByWhatIsSeen = (end : Span) (tokens given : List Token) (limit left : ℕ) → IsCarriedOut end tokens limit given left → IsCarriedOut end (map bare tokens) limit (map bare given) left

-- and bare tokens are refused for the same.
abbrev pub RefusalsGoByWhatIsSeen : Type 0
RefusalsGoByWhatIsSeen = (end : Span) (tokens : List Token) (limit : ℕ) (error : ParseError) → IsRefused end (start tokens) limit error → IsRefused end (start (map bare tokens)) limit error

-- Bare tokens are the same modules,
abbrev pub ModulesGoByWhatIsSeen : Type 0
ModulesGoByWhatIsSeen = (tokens : List Token) (modules : List Module) → AreParsed tokens modules → AreParsed (map bare tokens) modules

-- and have the same faults.
abbrev pub FaultsGoByWhatIsSeen : Type 0
FaultsGoByWhatIsSeen = (tokens : List Token) (end : Span) (error : ParseError) → IsFault tokens end error → IsFault (map bare tokens) end error
