use Rattle.process_cells.proofs.Common.{map, ap, ◌∙◌, IfOk-weaker, Write, distinct, target_of}
use Rattle.process_cells.proofs.Firsts.{numbers_all}
use Rattle.process_cells.proofs.variables.variables_of.Goals as goal

pub returns : goal.returns
returns c = IfOk-weaker c.numbers_of.result _ _ (λ l e. e ∙ ap (map (λ (w : Write). w.number)) c.as_slice.ensures.value ∙ numbers_all c.in_ok-firsts.firsts.items (distinct (map target_of c.args.writes.now)) c.in_ok-firsts.ensures) c.numbers_of.ensures
