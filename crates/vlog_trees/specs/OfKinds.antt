-- The parts of trees: what is asked of each is there.
use Rattle.std.specs.Prelude.{◌≡◌, ◌<◌, true, List, length}
use Rattle.vlog_token.specs.declared.token.Token.{Token}
use Rattle.vlog_grammar.specs.Trees.{Trees, Nil, Leaf, Node}
use Rattle.vlog_parts.specs.Kinds.{sorted}
use Rattle.vlog_trees.specs.Meaning.{means}

-- Each token stands in the text, and the parts of each production are of the sorts of its kinds.
abbrev pub AreOfKinds : List Token → Trees → Type 0
AreOfKinds ts Nil = Unit {0}
AreOfKinds ts (Leaf t x f) = (t.at < length ts) × AreOfKinds ts f
AreOfKinds ts (Node rule parts f) = (sorted rule (means ts parts) ≡ true) × AreOfKinds ts parts × AreOfKinds ts f
