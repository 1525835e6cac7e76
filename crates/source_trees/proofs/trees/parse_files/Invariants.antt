use Rattle.source_trees.proofs.Common.{◌≤◌, ◌++◌, All, List, drop, map, Module, module_nest, bare, ReadError, AreModules, IsUnparsed}
use Rattle.source_trees.proofs.trees.parse_files.Given as goal

abbrev pub invariant-loop-number : goal.invariant-loop-number
invariant-loop-number l = record {
  modules : (others : List Module) → AreModules (map (λ ts. map bare ts.items) (drop l.number l.given)) others → AreModules (map (λ ts. map bare ts.items) l.given) (l.modules.items ++ others);
  nesting : All (λ m. module_nest m ≤ 200) l.modules.items;
  faults : (e : ReadError) → IsUnparsed l.number (drop l.number l.files) (map (λ ts. map bare ts.items) (drop l.number l.given)) e → IsUnparsed 0 l.files (map (λ ts. map bare ts.items) l.given) e;
}
