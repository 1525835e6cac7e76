use Rattle.tb_nets.proofs.Common.{Writer, rows_of}
use Rattle.tb_nets.proofs.Tables.{pushed, pushed_on}
use Rattle.tb_nets.proofs.table.Writers.add.Goals as goal

pub returns : goal.returns
returns c = λ n i d.
    (let x : Writer = record { bits = c.args.mask.bits; node = c.args.node } in
    pushed_on (rows_of c.args.self.now) (rows_of c.make_room.new.self) _ n i d _ (c.in_ok-make_room.ensures.same n) (pushed (λ row. row.items) c.make_room.new.self.rows.items c.args.mask.number c.index_mut.result.now c.push.new.self x n i d c.index_mut.ensures.value c.in_ok-make_room.ensures.room c.in_ok-push.ensures.items))
