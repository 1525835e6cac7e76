use Rattle.vlog_meaning.proofs.Settled.{settled}
use Rattle.vlog_meaning.proofs.Reading.{rests_on_reads, words_within}
use Rattle.vlog_meaning.proofs.laws.values_rest_on_reads.Goals as goal

pub returns-clause-constants : goal.returns-clause-constants
returns-clause-constants c = settled

pub returns-clause-reads : goal.returns-clause-reads
returns-clause-reads c = rests_on_reads

pub returns-clause-words : goal.returns-clause-words
returns-clause-words c = words_within
