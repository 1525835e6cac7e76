-- Each part of a text is there.
use Rattle.vlog_parse.proofs.Common.{ℕ, ◌+◌, ◌≤◌, List, [], ◌∷◌, length, arith, Token, AreTreesOf, Trees, classed, classes, classes_from}
use Rattle.vlog_trees.specs.OfKinds.{AreOfKinds}
use Rattle.vlog_trees.proofs.Sorted.{Each, StandsIn, text_of_kinds}
use Rattle.vlog_parse.specs.declared.classes.Context.{Context}
use Rattle.vlog_parse.specs.declared.classes.Context.TheVariants as x

classes_stand : (n size : ℕ) (context : Context) (ts : List Token) → n + length ts ≤ size → Each (StandsIn size) (classes_from n context ts)
classes_stand n size context [] le = tt
classes_stand n size context (t ∷ ts) le = (omega (arith, le), classes_stand (n + 1) size (classed context t).1 ts (omega (arith, le)))

pub parts_there : (tokens : List Token) (text : Trees) → AreTreesOf text (classes tokens) → AreOfKinds tokens text
parts_there tokens text trees = text_of_kinds tokens text (classes tokens) trees (classes_stand 0 (length tokens) x.Outside tokens (omega arith))
