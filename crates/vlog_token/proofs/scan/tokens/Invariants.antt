use Rattle.vlog_token.proofs.Common.{length, map, seen}
use Rattle.vlog_token.proofs.ScanLemmas.{Scanned}
use Rattle.vlog_token.proofs.scan.tokens.Given as goal

abbrev pub invariant-loop-rest : goal.invariant-loop-rest
invariant-loop-rest l = Scanned l.fn.file l.text (map seen l.tokens.items) l.span l.rest

abbrev pub decreases-loop-rest : goal.decreases-loop-rest
decreases-loop-rest l = length l.rest
