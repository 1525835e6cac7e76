use Rattle.tb_nets.proofs.Common.{names_of, wiring, node_reads, rows_of}
use Rattle.tb_nets.proofs.Sharing.{are_writers}
use Rattle.tb_nets.proofs.graph.read_by.Goals as goal

pub returns : goal.returns
returns c = λ outputs. are_writers (rows_of c.args.writers.now) c.add_reads.new.masks (node_reads (wiring (names_of c.args.scope.now) c.args.inputs.now outputs) c.args.node.now) c.in_ok-row.row.items (λ n i. (rw c.new-masks.ensures at (c.in_ok-add_reads.ensures outputs)) n i) c.in_ok-row.ensures
