use Rattle.process_latches.proofs.Common.{◌∙◌, sym, on_ok_weaker, names_of, least_none}
use Rattle.process_latches.proofs.Reading.{whole_reads, no_reads}
use Rattle.process_latches.proofs.marks.Marks.read_by.Goals as goal

pub returns-in-Some : goal.returns-in-Some
returns-in-Some c = λ faults is. no_reads (names_of c.args.scope.now) c.args.expr.now faults c.in-Some.field-0 _ (sym c.in-Some.is ∙ is)

pub returns-in-None : goal.returns-in-None
returns-in-None c = on_ok_weaker c.read_whole.result (λ h faults is. whole_reads (names_of c.args.scope.now) c.args.expr.now faults _ _ (least_none faults (sym is ∙ c.in-None.is)) h) c.read_whole.ensures
