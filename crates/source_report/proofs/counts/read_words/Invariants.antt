use Rattle.source_report.proofs.Common.{◌≡◌, map, take, groups, words_of}
use Rattle.source_report.proofs.counts.read_words.Given as goal

abbrev pub invariant-loop-mutation : goal.invariant-loop-mutation
invariant-loop-mutation l = l.reads.items ≡ take l.mutation (map words_of (groups l.campaign l.state.rows))
