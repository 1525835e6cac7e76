use Rattle.source_trees.proofs.Common.{◌++◌, List, drop, map, Token, bare, ReadError, max_tokens, AreGiven, IsUngiven}
use Rattle.source_trees.proofs.given.give_files.Given as goal

abbrev pub invariant-loop-number : goal.invariant-loop-number
invariant-loop-number l = record {
  given : (others : List (List Token)) → AreGiven l.number (drop l.number l.files) l.limit others → AreGiven 0 l.files max_tokens (map (λ ts. map bare ts.items) l.given.items ++ others);
  faults : (e : ReadError) → IsUngiven l.number (drop l.number l.files) l.limit e → IsUngiven 0 l.files max_tokens e;
}
