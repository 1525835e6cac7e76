use Rattle.tb_writers.proofs.Common.{ap, ◌∙◌, Some, Decl, IfOk-weaker, names_of, bits_in, written_of}
use Rattle.tb_writers.proofs.Parts.{part_written, part_refused}
use Rattle.tb_writers.proofs.writers.Writers.write_part.Goals as goal

pub returns-clause-written : goal.returns-clause-written
returns-clause-written c = IfOk-weaker c.write_bits.result _ _ (λ f e p is same. part_written (names_of c.args.scope.now) c.args.kind (written_of c.args.self.now) (written_of c.write_bits.new.self) c.args.left.now c.args.name.now p c.as_str.result.now c.get.result _ _ c.in-Some-Signal.number _ c.bits.result (bits_in c.in_ok-masks.masks) is c.as_str.ensures c.get.ensures (c.in-Some-Signal.is ∙ ap (λ (d : Decl). Some d) c.in-Some-Signal.field-0-is) c.bits.ensures (c.in_ok-masks.ensures p is same) e) c.write_bits.ensures.written

pub returns-clause-fault : goal.returns-clause-fault
returns-clause-fault c = IfOk-weaker c.write_bits.result _ _ (λ f e p is same. part_refused (names_of c.args.scope.now) c.args.kind (written_of c.args.self.now) c.args.left.now c.args.name.now p c.as_str.result.now c.get.result _ _ c.in-Some-Signal.number _ c.bits.result (bits_in c.in_ok-masks.masks) f is c.as_str.ensures c.get.ensures (c.in-Some-Signal.is ∙ ap (λ (d : Decl). Some d) c.in-Some-Signal.field-0-is) c.bits.ensures (c.in_ok-masks.ensures p is same) e) c.write_bits.ensures.fault
