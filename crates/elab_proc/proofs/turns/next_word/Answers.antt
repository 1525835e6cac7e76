use Rattle.elab_proc.proofs.Common.{names_of, loop_of}
use Rattle.elab_proc.proofs.TurnLemmas.{next_fails, next_goes}
use Rattle.elab_proc.proofs.turns.next_word.Goals as goal

pub returns-in-Err-clause-none : goal.returns-in-Err-clause-none
returns-in-Err-clause-none c = λ comb w later. rw c.of_const.ensures (next_fails comb w (loop_of c.args.header.now) (names_of c.args.scope.now) later c.in-Err.error c.step_refusal.result c.step_refusal.ensures c.in-None.is (rw c.get.ensures at c.in-Err.ensures.refused))

pub returns-in-Ok-clause-next : goal.returns-in-Ok-clause-next
returns-in-Ok-clause-next c = (c.in-Ok.ensures.width, rw c.get.ensures at c.in-Ok.ensures.value, λ later. next_goes (loop_of c.args.header.now) (names_of c.args.scope.now) later c.step_refusal.result c.step_refusal.ensures c.in-None.is (rw c.get.ensures at c.in-Ok.ensures.refused))
