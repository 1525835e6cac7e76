use Rattle.tb_writers.proofs.Common.{ap, subst, ◌∙◌, add-one, arith, LeftSide, names_of, parts_of, IsFirst, written_of, with_parts, parts_faults}
use Rattle.tb_writers.proofs.Sums.{lefts_more, first_more}
use Rattle.tb_writers.proofs.writers.Writers.write_lefts.Goals as goal

pub loop-left-preserved : goal.loop-left-preserved
loop-left-preserved c =
    let written = c.in_ok-write_left.ensures.written ∙ ap (λ (z : LeftSide). with_parts (names_of c.args.scope.now) c.args.kind (written_of c.loop-left.self) (parts_of z)) c.get.ensures in
    let fault = subst (λ (z : LeftSide). IsFirst (parts_faults (names_of c.args.scope.now) c.args.kind (written_of c.loop-left.self) (parts_of z)) c.in_ok-write_left.field-0) c.get.ensures c.in_ok-write_left.ensures.fault in
    rw add-one (lefts_more (names_of c.args.scope.now) c.args.kind (written_of c.args.self.now) (written_of c.loop-left.self) (written_of c.write_left.new.self) c.args.lefts.now c.loop-left.left-index c.left-item.result c.left-item.is (omega arith) c.loop-left.invariant.0 written, first_more (names_of c.args.scope.now) c.args.kind (written_of c.args.self.now) (written_of c.loop-left.self) c.args.lefts.now c.loop-left.left-index c.left-item.result c.earlier-found.result c.left-item.is (omega arith) c.loop-left.invariant.0 (c.earlier-found.ensures.joined _ _ c.loop-left.invariant.1 fault))
