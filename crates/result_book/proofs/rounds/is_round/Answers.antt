use Rattle.result_book.proofs.Common.{sym, ◌∙◌, arith}
use Rattle.result_book.proofs.Rounding.{round_more, round_not, small_round}
use Rattle.result_book.proofs.rounds.is_round.Goals as goal

pub returns-then-rest-ne0 : goal.returns-then-rest-ne0
returns-then-rest-ne0 c = sym (round_not c.loop-rest.rest (omega arith) (omega arith) c.if-rest-ne0.true) ∙ c.loop-rest.invariant

pub loop-rest-preserved : goal.loop-rest-preserved
loop-rest-preserved c = sym (round_more c.loop-rest.rest (omega arith) (omega arith) c.if-rest-ne0.false) ∙ c.loop-rest.invariant

pub returns : goal.returns
returns c = sym (small_round c.loop-rest.rest (omega arith)) ∙ c.loop-rest.invariant
