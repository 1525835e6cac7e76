-- What the parser answers.
use Rattle.std.specs.Prelude.{◌≡◌, ℕ, ◌⊎◌, List, Option, Some, None, slice_get}
use Rattle.mcy_base.specs.declared.span.Span.{Span}
use Rattle.vlog_token.specs.declared.token.Token.{Token}
use Rattle.vlog_expand.specs.declared.error.ParseError.{ParseError}
use Rattle.vlog_expand.specs.declared.error.ParseError.TheVariants as e
use Rattle.vlog_grammar.specs.declared.step.Token.{Token as Classed}
use Rattle.vlog_grammar.specs.declared.stop.Stop.{Stop}
use Rattle.vlog_grammar.specs.declared.stop.Stop.TheVariants as stop
use Rattle.vlog_grammar.specs.Trees.{Trees}
use Rattle.vlog_grammar.specs.Reading.{AreTreesOf, IsStopAt}
use Rattle.vlog_syntax.specs.declared.module.Module.{Module}
use Rattle.vlog_trees.specs.Meaning.{modules}
use Rattle.vlog_parse.specs.Classes.{classes}
use Rattle.vlog_parse.specs.Nesting.{AllShallow, IsShallowBefore, IsTooDeepAt, depths}

-- These modules are what the trees mean that derive exactly these tokens.
pub record AreMeant (tokens : List Token) (ms : List Module) : Type 0 where
  pub text : Trees
  pub trees : AreTreesOf text (classes tokens)
  pub mean : ms ≡ modules tokens text

-- So they are, and no more than 200 constructs are nested.
pub record AreParsed (tokens : List Token) (ms : List Module) : Type 0 where
  pub are : AreMeant tokens ms
  pub shallow : AllShallow (depths are.text)

-- Reading stops for this reason, and nothing before it is too deep.
pub record IsFirstStop (tokens : List Classed) (why : Stop) : Type 0 where
  pub number : ℕ
  pub is_stop : IsStopAt tokens number why
  pub shallow : IsShallowBefore tokens number

abbrev pub span_or : Span → Option Token → Span
span_or end None = end
span_or end (Some t) = t.span

-- the place of the token with this number, or the end
abbrev pub place : List Token → Span → ℕ → Span
place tokens end n = span_or end (slice_get tokens n)

-- the error of a stop
abbrev pub stopped : List Token → Span → Stop → ParseError
stopped tokens end (stop.Unexpected n) = e.Unexpected (place tokens end n)
stopped tokens end (stop.Unsupported n feature) = e.Unsupported (place tokens end n) feature

-- The error is that of the first stop, or TooDeep at the first token at which more than 200 constructs are known.
-- Memory may come at any time.
abbrev pub IsFault : List Token → Span → ParseError → Type 0
IsFault tokens end error =
    ((why : Stop) × IsFirstStop (classes tokens) why × (error ≡ stopped tokens end why))
    ⊎ (((n : ℕ) × IsTooDeepAt (classes tokens) n × (error ≡ e.TooDeep (place tokens end n)))
    ⊎ (error ≡ e.Memory))

-- the same error, where neither is for want of memory
abbrev pub AreOneFault : ParseError → ParseError → Type 0
AreOneFault x y = (x ≡ e.Memory) ⊎ ((y ≡ e.Memory) ⊎ (x ≡ y))
