-- The uses of macros, replaced by their texts (IEEE 1364-2005, 19.3.1), under a limit for tokens and uses.
use Rattle.std.specs.Prelude.{◌≡◌, ◌⊎◌, ℕ, zero, suc, List, [], ◌∷◌, ◌++◌, Option, None, Some, if◌then◌else◌}
use Rattle.mcy_base.specs.declared.kind.Kind.TheVariants.{Tokens}
use Rattle.vlog_syntax.specs.declared.feature.Feature.TheVariants.{MacroDepth}
use Rattle.vlog_token.specs.declared.token.Token.{Token}
use Rattle.vlog_expand.specs.declared.error.ParseError.{ParseError}
use Rattle.vlog_expand.specs.declared.error.ParseError.TheVariants.{Memory, Unsupported, UnknownMacro, TooMany}
use Rattle.vlog_expand.specs.Words.{is_use, name_of, word_of}
use Rattle.vlog_expand.specs.Definitions.{Definitions}

-- what tokens come to under a limit: tokens and what is left of the limit, or a refusal
pub data Outcome : Type 0 where
  Gives : List Token → ℕ → Outcome
  Refuses : ParseError → Outcome

-- the same with other tokens before it
abbrev pub behind : List Token → Outcome → Outcome
behind ts (Gives us n) = Gives (ts ++ us) n
behind ts (Refuses e) = Refuses e

-- an outcome, and behind it what comes of the limit that it leaves
abbrev pub followed : Outcome → (ℕ → Outcome) → Outcome
followed (Gives ts n) next = behind ts (next n)
followed (Refuses e) next = Refuses e

-- tokens come to what each of them comes to, one behind the other
abbrev pub in_order : (Token → ℕ → Outcome) → List Token → ℕ → Outcome
in_order each [] n = Gives [] n
in_order each (t ∷ ts) n = followed (each t n) (in_order each ts)

-- a token counts as one
abbrev pub token_given : Token → ℕ → Outcome
token_given t zero = Refuses (TooMany Tokens)
token_given t (suc n) = Gives (t ∷ []) n

-- a use counts as one, and comes to what the macro's text comes to
abbrev pub use_replaced : Option (List Token) → (Token → ℕ → Outcome) → Token → ℕ → Outcome
use_replaced None each t n = Refuses (UnknownMacro t.span)
use_replaced (Some text) each t zero = Refuses (TooMany Tokens)
use_replaced (Some text) each t (suc n) = in_order each text n

-- What a token comes to, where uses may stand in one another so deep.
unfoldable pub expanded : ℕ → Definitions → Token → ℕ → Outcome
expanded zero macros t n = if is_use (word_of t) then Refuses (Unsupported t.span MacroDepth) else token_given t n
expanded (suc depth) macros t n = if is_use (word_of t) then use_replaced (macros (name_of t)) (expanded depth macros) t n else token_given t n

-- For proofs alone.

-- This refusal is the outcome, or there was no memory.
abbrev pub IsRefusal : Outcome → ParseError → Type 0
IsRefusal o e = (e ≡ Memory) ⊎ (o ≡ Refuses e)
