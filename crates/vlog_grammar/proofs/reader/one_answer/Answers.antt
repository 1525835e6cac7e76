use Rattle.vlog_grammar.proofs.Answer.{read_once, stops_once}
use Rattle.vlog_grammar.proofs.Unique.{texts_alike_for}
use Rattle.vlog_grammar.proofs.reader.one_answer.Goals as goal

pub returns-clause-read : goal.returns-clause-read
returns-clause-read c = read_once

pub returns-clause-stops : goal.returns-clause-stops
returns-clause-stops c = stops_once

pub returns-clause-begins : goal.returns-clause-begins
returns-clause-begins c = texts_alike_for
