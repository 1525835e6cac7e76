use Rattle.source_trees.proofs.Common.{All, drop, take, IsUtf8, ReadError, IsNoText}
use Rattle.source_trees.proofs.texts.check_texts.Given as goal

abbrev pub invariant-loop-number : goal.invariant-loop-number
invariant-loop-number l = record {
  texts : All (λ file. IsUtf8 file.bytes) (take l.number l.files);
  faults : (e : ReadError) → IsNoText l.number (drop l.number l.files) e → IsNoText 0 l.files e;
}
