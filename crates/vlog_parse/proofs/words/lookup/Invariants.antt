use Rattle.vlog_parse.proofs.Common.{◌≡◌, drop, map}
use Rattle.vlog_parse.specs.Words.{lookup, plain}
use Rattle.vlog_parse.proofs.words.lookup.Given as goal

abbrev pub invariant-loop-word : goal.invariant-loop-word
invariant-loop-word l = lookup (map plain (drop l.word-index l.table)) l.text ≡ lookup (map plain l.table) l.text
