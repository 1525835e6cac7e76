-- Which rows of trees the grammar has, which tokens they derive, and what is refused in them.
use Rattle.std.specs.Prelude.{◌≡◌, false, List, [], ◌∷◌, ◌++◌, Option, Some, None}
use Rattle.vlog_syntax.specs.declared.feature.Feature.{Feature}
use Rattle.vlog_grammar.specs.declared.class.Class.{Class}
use Rattle.vlog_grammar.specs.declared.class.Class.TheVariants.{Finish}
use Rattle.vlog_grammar.specs.declared.rule.Rule.{Rule}
use Rattle.vlog_grammar.specs.declared.step.Token.{Token}
use Rattle.vlog_grammar.specs.declared.step.Step.{Step}
use Rattle.vlog_grammar.specs.declared.step.Step.TheVariants.{Take, Begin}
use Rattle.vlog_grammar.specs.declared.table.Symbol.{Symbol}
use Rattle.vlog_grammar.specs.declared.table.Symbol.TheVariants.{Is, Refused, Of}
use Rattle.vlog_grammar.specs.Grammar.{kind_of, parts_of, is_avoided}

-- A row of trees. Each is a token, with the feature by which it is refused where it is, or a production over the row of
-- its parts. The row goes on behind it.
pub data Trees : Type 0 where
  Nil : Trees
  Leaf : Token → Option Feature → Trees → Trees
  Node : Rule → Trees → Trees → Trees

-- the tokens of a row, and for each whether it is refused
abbrev pub tokens_of : Trees → List Token
tokens_of Nil = []
tokens_of (Leaf t x f) = t ∷ tokens_of f
tokens_of (Node r parts f) = tokens_of parts ++ tokens_of f

abbrev pub refusals_of : Trees → List (Option Feature)
refusals_of Nil = []
refusals_of (Leaf t x f) = x ∷ refusals_of f
refusals_of (Node r parts f) = refusals_of parts ++ refusals_of f

-- the class of the first token
abbrev pub next_of : List Token → Class
next_of [] = Finish
next_of (t ∷ ts) = t.class

-- the token may stand for the symbol, and x says whether it is refused there
abbrev pub Fits : Symbol → Token → Option Feature → Type 0
Fits (Is c) t x = (t.class ≡ c) × (x ≡ None)
Fits (Refused c feature) t x = (t.class ≡ c) × (x ≡ Some feature)
Fits (Of kind) t x = ⊥

-- The row has a tree for each symbol, by the productions, where `after` are the tokens behind it. A production that is
-- avoided before some tokens doesn't stand before these.
abbrev pub Derives : List Symbol → Trees → List Token → Type 0
Derives [] Nil after = Unit {0}
Derives (s ∷ ss) (Leaf t x f) after = Fits s t x × Derives ss f after
Derives (s ∷ ss) (Node r parts f) after =
    (s ≡ Of (kind_of r))
    × (is_avoided r (next_of (tokens_of f ++ after)) ≡ false)
    × Derives (parts_of r) parts (tokens_of f ++ after)
    × Derives ss f after
Derives _ _ _ = ⊥

-- the row as it is read from the left: each production before its parts
abbrev pub steps_of : Trees → List Step
steps_of Nil = []
steps_of (Leaf t x f) = Take t ∷ steps_of f
steps_of (Node r parts f) = Begin r ∷ (steps_of parts ++ steps_of f)
