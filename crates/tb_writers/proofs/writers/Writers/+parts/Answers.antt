use Rattle.tb_writers.proofs.Common.{refl, ap, ◌∙◌, add-one, arith, IfOk-weaker, names_of, Whole, Bit, Range, Indexed, Part, IsPart, is_name, is_bit, is_range, is_indexed, written_of, is_constant}
use Rattle.tb_writers.proofs.Sums.{one_part, one_fault, joined_more, joined_faults}
use Rattle.tb_writers.proofs.writers.Writers.+parts.Goals as goal

pub write_left-write_part-requires-clause-part : goal.write_left-write_part-requires-clause-part
write_left-write_part-requires-clause-part t c = (record { name = c.in-Name.name; select = Whole }, (is_name c.args.left.now c.in-Name.name c.in-Name.is, refl))

pub write_left-returns-in-Name-clause-written : goal.write_left-returns-in-Name-clause-written
write_left-returns-in-Name-clause-written t c =
    let p : Part = record { name = c.in-Name.name; select = Whole } in
    let is : IsPart c.args.left.now c.in-Name.name p = is_name c.args.left.now c.in-Name.name c.in-Name.is in
    IfOk-weaker c.write_part.result _ _ (λ f e. one_part (names_of c.args.scope.now) c.args.kind (written_of c.args.self.now) (written_of c.write_part.new.self) c.args.left.now p is.parts (e p is (refl))) c.write_part.ensures.written

pub write_left-returns-in-Name-clause-fault : goal.write_left-returns-in-Name-clause-fault
write_left-returns-in-Name-clause-fault t c =
    let p : Part = record { name = c.in-Name.name; select = Whole } in
    let is : IsPart c.args.left.now c.in-Name.name p = is_name c.args.left.now c.in-Name.name c.in-Name.is in
    IfOk-weaker c.write_part.result _ _ (λ f e. one_fault (names_of c.args.scope.now) c.args.kind (written_of c.args.self.now) c.args.left.now p f is.parts (e p is (refl))) c.write_part.ensures.fault

pub write_left-write_part-requires-in-BitSelect-clause-part : goal.write_left-write_part-requires-in-BitSelect-clause-part
write_left-write_part-requires-in-BitSelect-clause-part t c = (record { name = c.in-BitSelect.name; select = Bit c.in-BitSelect.field-1 c.in-BitSelect.index }, (is_bit c.args.left.now c.in-BitSelect.name c.in-BitSelect.field-1 c.in-BitSelect.index c.in-BitSelect.is, c.is_constant-is_placed.ensures ∙ ap (is_constant (names_of c.args.scope.now)) c.get.ensures))

pub write_left-returns-in-BitSelect-clause-written : goal.write_left-returns-in-BitSelect-clause-written
write_left-returns-in-BitSelect-clause-written t c =
    let p : Part = record { name = c.in-BitSelect.name; select = Bit c.in-BitSelect.field-1 c.in-BitSelect.index } in
    let is : IsPart c.args.left.now c.in-BitSelect.name p = is_bit c.args.left.now c.in-BitSelect.name c.in-BitSelect.field-1 c.in-BitSelect.index c.in-BitSelect.is in
    IfOk-weaker c.write_part-in-BitSelect.result _ _ (λ f e. one_part (names_of c.args.scope.now) c.args.kind (written_of c.args.self.now) (written_of c.write_part-in-BitSelect.new.self) c.args.left.now p is.parts (e p is (c.is_constant-is_placed.ensures ∙ ap (is_constant (names_of c.args.scope.now)) c.get.ensures))) c.write_part-in-BitSelect.ensures.written

pub write_left-returns-in-BitSelect-clause-fault : goal.write_left-returns-in-BitSelect-clause-fault
write_left-returns-in-BitSelect-clause-fault t c =
    let p : Part = record { name = c.in-BitSelect.name; select = Bit c.in-BitSelect.field-1 c.in-BitSelect.index } in
    let is : IsPart c.args.left.now c.in-BitSelect.name p = is_bit c.args.left.now c.in-BitSelect.name c.in-BitSelect.field-1 c.in-BitSelect.index c.in-BitSelect.is in
    IfOk-weaker c.write_part-in-BitSelect.result _ _ (λ f e. one_fault (names_of c.args.scope.now) c.args.kind (written_of c.args.self.now) c.args.left.now p f is.parts (e p is (c.is_constant-is_placed.ensures ∙ ap (is_constant (names_of c.args.scope.now)) c.get.ensures))) c.write_part-in-BitSelect.ensures.fault

pub write_left-write_part-requires-in-PartSelect-clause-part : goal.write_left-write_part-requires-in-PartSelect-clause-part
write_left-write_part-requires-in-PartSelect-clause-part t c = (record { name = c.in-PartSelect.name; select = Range c.in-PartSelect.field-1 c.in-PartSelect.field-2 c.in-PartSelect.field-3 }, (is_range c.args.left.now c.in-PartSelect.name c.in-PartSelect.field-1 c.in-PartSelect.field-2 c.in-PartSelect.field-3 c.in-PartSelect.is, refl))

pub write_left-returns-in-PartSelect-clause-written : goal.write_left-returns-in-PartSelect-clause-written
write_left-returns-in-PartSelect-clause-written t c =
    let p : Part = record { name = c.in-PartSelect.name; select = Range c.in-PartSelect.field-1 c.in-PartSelect.field-2 c.in-PartSelect.field-3 } in
    let is : IsPart c.args.left.now c.in-PartSelect.name p = is_range c.args.left.now c.in-PartSelect.name c.in-PartSelect.field-1 c.in-PartSelect.field-2 c.in-PartSelect.field-3 c.in-PartSelect.is in
    IfOk-weaker c.write_part-in-PartSelect.result _ _ (λ f e. one_part (names_of c.args.scope.now) c.args.kind (written_of c.args.self.now) (written_of c.write_part-in-PartSelect.new.self) c.args.left.now p is.parts (e p is (refl))) c.write_part-in-PartSelect.ensures.written

pub write_left-returns-in-PartSelect-clause-fault : goal.write_left-returns-in-PartSelect-clause-fault
write_left-returns-in-PartSelect-clause-fault t c =
    let p : Part = record { name = c.in-PartSelect.name; select = Range c.in-PartSelect.field-1 c.in-PartSelect.field-2 c.in-PartSelect.field-3 } in
    let is : IsPart c.args.left.now c.in-PartSelect.name p = is_range c.args.left.now c.in-PartSelect.name c.in-PartSelect.field-1 c.in-PartSelect.field-2 c.in-PartSelect.field-3 c.in-PartSelect.is in
    IfOk-weaker c.write_part-in-PartSelect.result _ _ (λ f e. one_fault (names_of c.args.scope.now) c.args.kind (written_of c.args.self.now) c.args.left.now p f is.parts (e p is (refl))) c.write_part-in-PartSelect.ensures.fault

pub write_left-write_part-requires-in-IndexedPartSelect-clause-part : goal.write_left-write_part-requires-in-IndexedPartSelect-clause-part
write_left-write_part-requires-in-IndexedPartSelect-clause-part t c = (record { name = c.in-IndexedPartSelect.name; select = Indexed c.in-IndexedPartSelect.field-1 c.in-IndexedPartSelect.base c.in-IndexedPartSelect.field-3 }, (is_indexed c.args.left.now c.in-IndexedPartSelect.name c.in-IndexedPartSelect.field-1 c.in-IndexedPartSelect.base c.in-IndexedPartSelect.field-3 c.in-IndexedPartSelect.is, c.is_constant-is_placed-in-IndexedPartSelect.ensures ∙ ap (is_constant (names_of c.args.scope.now)) c.get-in-IndexedPartSelect.ensures))

pub write_left-returns-in-IndexedPartSelect-clause-written : goal.write_left-returns-in-IndexedPartSelect-clause-written
write_left-returns-in-IndexedPartSelect-clause-written t c =
    let p : Part = record { name = c.in-IndexedPartSelect.name; select = Indexed c.in-IndexedPartSelect.field-1 c.in-IndexedPartSelect.base c.in-IndexedPartSelect.field-3 } in
    let is : IsPart c.args.left.now c.in-IndexedPartSelect.name p = is_indexed c.args.left.now c.in-IndexedPartSelect.name c.in-IndexedPartSelect.field-1 c.in-IndexedPartSelect.base c.in-IndexedPartSelect.field-3 c.in-IndexedPartSelect.is in
    IfOk-weaker c.write_part-in-IndexedPartSelect.result _ _ (λ f e. one_part (names_of c.args.scope.now) c.args.kind (written_of c.args.self.now) (written_of c.write_part-in-IndexedPartSelect.new.self) c.args.left.now p is.parts (e p is (c.is_constant-is_placed-in-IndexedPartSelect.ensures ∙ ap (is_constant (names_of c.args.scope.now)) c.get-in-IndexedPartSelect.ensures))) c.write_part-in-IndexedPartSelect.ensures.written

pub write_left-returns-in-IndexedPartSelect-clause-fault : goal.write_left-returns-in-IndexedPartSelect-clause-fault
write_left-returns-in-IndexedPartSelect-clause-fault t c =
    let p : Part = record { name = c.in-IndexedPartSelect.name; select = Indexed c.in-IndexedPartSelect.field-1 c.in-IndexedPartSelect.base c.in-IndexedPartSelect.field-3 } in
    let is : IsPart c.args.left.now c.in-IndexedPartSelect.name p = is_indexed c.args.left.now c.in-IndexedPartSelect.name c.in-IndexedPartSelect.field-1 c.in-IndexedPartSelect.base c.in-IndexedPartSelect.field-3 c.in-IndexedPartSelect.is in
    IfOk-weaker c.write_part-in-IndexedPartSelect.result _ _ (λ f e. one_fault (names_of c.args.scope.now) c.args.kind (written_of c.args.self.now) c.args.left.now p f is.parts (e p is (c.is_constant-is_placed-in-IndexedPartSelect.ensures ∙ ap (is_constant (names_of c.args.scope.now)) c.get-in-IndexedPartSelect.ensures))) c.write_part-in-IndexedPartSelect.ensures.fault

pub write_joined-loop-left-preserved : goal.write_joined-loop-left-preserved
write_joined-loop-left-preserved t c =
    rw add-one (joined_more (names_of c.args.scope.now) c.args.kind (written_of c.args.self.now) (written_of c.loop-left.self) (written_of c.write_left.new.self) c.args.lefts.now c.loop-left.left-index c.left-item.result c.left-item.is (omega arith) c.loop-left.invariant.0 c.in_ok-write_left.ensures.written, joined_faults (names_of c.args.scope.now) c.args.kind (written_of c.args.self.now) (written_of c.loop-left.self) c.args.lefts.now c.loop-left.left-index c.left-item.result c.earlier-found.result c.left-item.is (omega arith) c.loop-left.invariant.0 (c.earlier-found.ensures.joined _ _ c.loop-left.invariant.1 c.in_ok-write_left.ensures.fault))
