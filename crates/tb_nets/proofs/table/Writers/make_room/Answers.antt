use Rattle.tb_nets.proofs.Common.{◌∙◌, ap, map, [], slice_index_or}
use Rattle.tb_nets.proofs.Tables.{push_room}
use Rattle.tb_nets.proofs.table.Writers.make_room.Goals as goal

pub loop-alloc-preserved : goal.loop-alloc-preserved
loop-alloc-preserved c = λ n. ap (λ rows. slice_index_or (map (λ row. row.items) rows) n []) c.in_ok-push.ensures.items ∙ push_room (λ row. row.items) c.loop-alloc.self.rows.items c.new.result n c.new.ensures.items ∙ c.loop-alloc.invariant n
