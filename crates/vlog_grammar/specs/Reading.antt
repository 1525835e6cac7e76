-- What the reader answers for a list of tokens.
use Rattle.std.specs.Prelude.{◌≡◌, ℕ, zero, suc, ◌-◌, ◌<◌, ◌≤◌, ◌⊎◌, List, [], ◌∷◌, ◌++◌, take, drop, length, Option, Some, None}
use Rattle.vlog_syntax.specs.declared.feature.Feature.{Feature}
use Rattle.vlog_syntax.specs.declared.feature.Feature.TheVariants as feature
use Rattle.vlog_grammar.specs.declared.class.Class.{Class}
use Rattle.vlog_grammar.specs.declared.class.Class.TheVariants as c
use Rattle.vlog_grammar.specs.declared.rule.Kind.TheVariants.{SourceText}
use Rattle.vlog_grammar.specs.declared.step.Token.{Token}
use Rattle.vlog_grammar.specs.declared.step.Step.{Step}
use Rattle.vlog_grammar.specs.declared.step.Step.TheVariants.{Take, Begin}
use Rattle.vlog_grammar.specs.declared.stop.Stop.{Stop}
use Rattle.vlog_grammar.specs.declared.stop.Stop.TheVariants.{Unexpected, Unsupported}
use Rattle.vlog_grammar.specs.declared.table.Symbol.{Symbol}
use Rattle.vlog_grammar.specs.declared.table.Symbol.TheVariants.{Of}
use Rattle.vlog_grammar.specs.Trees.{Trees, Derives, tokens_of, refusals_of, steps_of, next_of}

abbrev pub start : List Symbol
start = Of SourceText ∷ []

-- the trees of a text of the grammar
abbrev pub IsText : Trees → Type 0
IsText text = Derives start text []

-- nothing is refused in these tokens
abbrev pub none_refused : List Token → List (Option Feature)
none_refused [] = []
none_refused (t ∷ ts) = None ∷ none_refused ts

-- the trees derive exactly these tokens, and none of them is refused
pub record AreTreesOf (text : Trees) (tokens : List Token) : Type 0 where
  pub is_text : IsText text
  pub derives : tokens_of text ≡ tokens
  pub none_is_refused : refusals_of text ≡ none_refused tokens

-- the trees derive the tokens, and the steps are theirs
pub record AreStepsOf (steps : List Step) (tokens : List Token) : Type 0 where
  pub text : Trees
  pub trees : AreTreesOf text tokens
  pub are : steps_of text ≡ steps

-- a text begins with these tokens, and nothing is refused in it
pub record BeginText (done : List Token) : Type 0 where
  pub text : Trees
  pub more : List Token
  pub trees : AreTreesOf text (done ++ more)

-- no text begins with these tokens and the first of the rest; where there is no rest, they are no text
abbrev pub NoneGoesOn : List Token → List Token → Type 0
NoneGoesOn done [] = (text : Trees) → IsText text → tokens_of text ≡ done → ⊥
NoneGoesOn done (t ∷ rest) = (text : Trees) (more : List Token) → IsText text → tokens_of text ≡ done ++ t ∷ more → ⊥

-- the rest begins with the first token after which no text goes on
pub record IsUnexpected (done rest : List Token) : Type 0 where
  pub before : BeginText done
  pub none_goes_on : NoneGoesOn done rest

-- the rest begins with the first token that is refused in a text, and by this feature
pub record IsRefused (x : Feature) (done rest : List Token) : Type 0 where
  pub token : Token
  pub behind : List Token
  pub is_rest : rest ≡ token ∷ behind
  pub text : Trees
  pub is_text : IsText text
  pub more : List Token
  pub begins : tokens_of text ≡ done ++ token ∷ more
  pub refusals : List (Option Feature)
  pub first_refused : refusals_of text ≡ none_refused done ++ Some x ∷ refusals

abbrev pub IsUnexpectedAt : List Token → ℕ → Type 0
IsUnexpectedAt tokens n = (n ≤ length tokens) × IsUnexpected (take n tokens) (drop n tokens)

abbrev pub IsRefusedAt : List Token → ℕ → Feature → Type 0
IsRefusedAt tokens n x = (n < length tokens) × IsRefused x (take n tokens) (drop n tokens)

-- the words that are refused by name wherever they are unexpected
unfoldable pub named : Class → Option Feature
named c.NetKind = Some feature.NetKind
named c.Inout = Some feature.Inout
named c.Function = Some feature.Function
named c.Task = Some feature.Task
named c.Specify = Some feature.Specify
named c.Defparam = Some feature.Defparam
named c.RealOrTime = Some feature.RealOrTime
named _ = None

-- The first token of a construct, where the one with number n is the token at which it is refused: a memory is refused
-- at the `[` behind its name.
unfoldable pub first_of : Feature → ℕ → ℕ
first_of feature.Memory n = n - 1
first_of _ n = n

-- the token with number n isn't read, for this reason
abbrev pub IsStopAt : List Token → ℕ → Stop → Type 0
IsStopAt tokens n (Unexpected at) = (at ≡ n) × IsUnexpectedAt tokens n × (named (next_of (drop n tokens)) ≡ None)
IsStopAt tokens n (Unsupported at x) =
    ((at ≡ n) × IsUnexpectedAt tokens n × (named (next_of (drop n tokens)) ≡ Some x))
    ⊎ (IsRefusedAt tokens n x × (at ≡ first_of x n))

-- the tokens are no text, for this reason
abbrev pub IsStop : List Token → Stop → Type 0
IsStop tokens stop = (n : ℕ) × IsStopAt tokens n stop

-- the tokens that were taken
abbrev pub taken : List Step → List Token
taken [] = []
taken (Take t ∷ steps) = t ∷ taken steps
taken (Begin r ∷ steps) = taken steps

-- the steps take these tokens, and each text that begins with them is read by these steps first
pub record AreStepsSoFar (steps : List Step) (done : List Token) : Type 0 where
  pub take_them : taken steps ≡ done
  pub shared : (text : Trees) (more : List Token) → IsText text → tokens_of text ≡ done ++ more → (behind : List Step) × (steps_of text ≡ steps ++ behind)

-- what the reader gives for the tokens
abbrev pub IsReading : List Token → List Step → Option Stop → Type 0
IsReading tokens steps None = AreStepsOf steps tokens
IsReading tokens steps (Some stop) = (n : ℕ) × IsStopAt tokens n stop × AreStepsSoFar steps (take n tokens)

-- the first steps, up to the one that takes the last of so many tokens
abbrev pub steps_for : ℕ → List Step → List Step
steps_for zero steps = []
steps_for (suc n) [] = []
steps_for (suc n) (Take t ∷ steps) = Take t ∷ steps_for n steps
steps_for (suc n) (Begin r ∷ steps) = Begin r ∷ steps_for (suc n) steps

-- up to so many tokens two texts are read by the same steps, and the same is refused in them
pub record AreAlikeFor (n : ℕ) (f g : Trees) : Type 0 where
  pub steps : steps_for n (steps_of f) ≡ steps_for n (steps_of g)
  pub refusals : take n (refusals_of f) ≡ take n (refusals_of g)
