-- What the reader's private functions keep: what its stack asks for is what the text asks for.
use Rattle.std.specs.Prelude.{◌≡◌, true, List, [], ◌∷◌, ◌++◌, None}
use Rattle.vlog_grammar.specs.declared.class.Class.{Class}
use Rattle.vlog_grammar.specs.declared.reader.Asked.{Asked}
use Rattle.vlog_grammar.specs.declared.reader.Asked.TheVariants.{Asks, Stuck, Nothing}
use Rattle.vlog_grammar.specs.declared.rule.Kind.{Kind}
use Rattle.vlog_grammar.specs.declared.step.Token.{Token}
use Rattle.vlog_grammar.specs.declared.step.Step.{Step}
use Rattle.vlog_grammar.specs.declared.table.Symbol.{Symbol}
use Rattle.vlog_grammar.specs.declared.table.Symbol.TheVariants.{Is, Refused, Of}
use Rattle.vlog_grammar.specs.Choice.{choice}
use Rattle.vlog_grammar.specs.Look.{can_come, all_safe, rest_of, is_follow, is_finish}
use Rattle.vlog_grammar.specs.Reading.{IsText, none_refused}
use Rattle.vlog_grammar.specs.Trees.{Trees, tokens_of, refusals_of, steps_of, next_of, Derives}

-- For proofs alone.

-- what may stand behind a symbol, where a row for ss and then the end stand there
abbrev pub IsFollowed : Symbol → List Symbol → Type 0
IsFollowed (Is c) ss = Unit {0}
IsFollowed (Refused c x) ss = Unit {0}
IsFollowed (Of k) ss = (y : Class) → can_come ss (is_finish y) y ≡ true → is_follow k y ≡ true

abbrev pub AllFollowed : List Symbol → Type 0
AllFollowed [] = Unit {0}
AllFollowed (s ∷ ss) = IsFollowed s ss × AllFollowed ss

-- a row for the old symbols reads as g does, but for the steps that were added
pub record Widens (old : List Symbol) (added : List Step) (g : Trees) : Type 0 where
  pub row : Trees
  pub derives : Derives old row []
  pub tokens : tokens_of row ≡ tokens_of g
  pub refusals : refusals_of row ≡ refusals_of g
  pub steps : steps_of row ≡ added ++ steps_of g

-- f reads as a row for the new symbols does, but for the steps that were added
pub record Narrows (new : List Symbol) (added : List Step) (f : Trees) : Type 0 where
  pub row : Trees
  pub derives : Derives new row []
  pub tokens : tokens_of row ≡ tokens_of f
  pub refusals : refusals_of row ≡ refusals_of f
  pub steps : steps_of f ≡ added ++ steps_of row

-- before a token of this class the old symbols ask for what the new ones do
pub record Expands (y : Class) (old new : List Symbol) (added : List Step) : Type 0 where
  pub back : (g : Trees) → Derives new g [] → next_of (tokens_of g) ≡ y → Widens old added g
  pub forth : (f : Trees) → Derives old f [] → next_of (tokens_of f) ≡ y → Narrows new added f
  pub followed : AllFollowed new
  pub safe : all_safe (rest_of new) ≡ true

-- a whole text that begins with what is done and goes on as g does
pub record Text (done : List Token) (so_far : List Step) (g : Trees) : Type 0 where
  pub row : Trees
  pub is_text : IsText row
  pub tokens : tokens_of row ≡ done ++ tokens_of g
  pub refusals : refusals_of row ≡ none_refused done ++ refusals_of g
  pub steps : steps_of row ≡ so_far ++ steps_of g

-- what a whole text has behind what is done
pub record Rest (done : List Token) (so_far : List Step) (stack : List Symbol) (f : Trees) (more : List Token) : Type 0 where
  pub row : Trees
  pub derives : Derives stack row []
  pub tokens : tokens_of row ≡ more
  pub refusals : refusals_of f ≡ none_refused done ++ refusals_of row
  pub steps : steps_of f ≡ so_far ++ steps_of row

-- whatever completes the stack completes a text that begins with what is done, and whatever a text has behind what is
-- done completes the stack
pub record Reaches (done : List Token) (steps : List Step) (stack : List Symbol) : Type 0 where
  pub back : (g : Trees) → Derives stack g [] → Text done steps g
  pub forth : (f : Trees) (more : List Token) → IsText f → tokens_of f ≡ done ++ more → Rest done steps stack f more
  pub followed : AllFollowed stack
  pub safe : all_safe stack ≡ true

-- the symbols with what was taken from their top
abbrev pub with_asked : Asked → List Symbol → List Symbol
with_asked (Asks s) ss = s ∷ ss
with_asked (Stuck s) ss = s ∷ ss
with_asked Nothing ss = []

-- what was taken is as its case says
abbrev pub IsAsked : Class → Asked → Type 0
IsAsked y (Asks s) = (k : Kind) → s ≡ Of k → ⊥
IsAsked y (Stuck s) = (k : Kind) × (s ≡ Of k) × (choice k y ≡ None)
IsAsked y Nothing = Unit {0}

-- productions were put in the place of kinds, and the steps tell which
pub record ExpandsTo (y : Class) (old new : List Symbol) (before after : List Step) : Type 0 where
  pub added : List Step
  pub are : after ≡ before ++ added
  pub expands : Expands y old new added
