use Rattle.process_latches.proofs.Common.{rules, the_lemmas, names_of}
use Rattle.process_latches.proofs.Initials.{name_first, other_first}
use Rattle.process_latches.proofs.initial.assignment_refusal.Goals as goal

pub returns : goal.returns
returns c = name_first (names_of c.args.scope.now) c.args.assignment.now c.in-Name.name c.get.result.now c.start_refusal.result c.in-Name.is c.get.ensures c.start_refusal.ensures

pub returns-in_default : goal.returns-in_default
returns-in_default c = other_first (names_of c.args.scope.now) c.args.assignment.now c.unsupported.result (search (rules, the_lemmas)) (rw c.first_token.ensures at c.unsupported.ensures)
