-- What trees of the grammar mean: each production by what its parts mean.
use Rattle.std.specs.Prelude.{List, [], ◌∷◌, Option, Some, None, slice_get, take, drop, length}
use Rattle.vlog_token.specs.declared.token.Token.{Token}
use Rattle.vlog_grammar.specs.declared.rule.Rule.{Rule}
use Rattle.vlog_grammar.specs.declared.step.Step.{Step}
use Rattle.vlog_grammar.specs.declared.step.Step.TheVariants.{Take, Begin}
use Rattle.vlog_grammar.specs.declared.step.Token.{Token as Classed}
use Rattle.vlog_grammar.specs.Grammar.{parts_of}
use Rattle.vlog_grammar.specs.Trees.{Trees, Nil, Leaf, Node}
use Rattle.vlog_syntax.specs.declared.module.Module.{Module}
use Rattle.vlog_parts.specs.declared.value.Value.{Value}
use Rattle.vlog_parts.specs.declared.value.Value.TheVariants as v
use Rattle.vlog_grammar.specs.declared.table.Symbol.{Symbol}
use Rattle.vlog_trees.specs.Expressions.{made_expression}
use Rattle.vlog_parts.specs.Numbered.{first}
use Rattle.vlog_parts.specs.Values.{modules_of}

-- a production without parts means nothing
abbrev pub made_by : List Symbol → Rule → List Value → Value
made_by [] rule ms = v.Nothing
made_by (s ∷ ss) rule ms = made_expression rule ms

-- what a production means
unfoldable pub made : Rule → List Value → Value
made rule ms = made_by (parts_of rule) rule ms

abbrev value_of : Option Token → Value
value_of None = v.Nothing
value_of (Some t) = v.Token t

-- what a token means: itself, as it stands in the source
unfoldable pub leaf : List Token → Classed → Value
leaf ts t = value_of (slice_get ts t.at)

-- what a row of trees means, a meaning for each
abbrev pub means : List Token → Trees → List Value
means ts Nil = []
means ts (Leaf t x f) = leaf ts t ∷ means ts f
means ts (Node r parts f) = made r (means ts parts) ∷ means ts f

-- the modules of a text
abbrev pub modules : List Token → Trees → List Module
modules ts text = modules_of (first (means ts text))

-- For proofs alone.

-- the same from the steps, the last one first
abbrev pub run : List Token → List Step → List Value
run ts [] = []
run ts (Take t ∷ ss) = leaf ts t ∷ run ts ss
run ts (Begin r ∷ ss) =
    let arity = length (parts_of r) in
    made r (take arity (run ts ss)) ∷ drop arity (run ts ss)
