use Rattle.tag_script.proofs.Common.{◌+◌, ◌*◌, length, project_of}
use Rattle.tag_script.proofs.Lines.{Whole}
use Rattle.tag_script.proofs.block.+read.Given as goal

abbrev pub decreases-block_in : goal.decreases-block_in
decreases-block_in l = 4 * l.place.room + 3

abbrev pub decreases-with_part : goal.decreases-with_part
decreases-with_part l = 4 * l.place.room + 2

abbrev pub decreases-body_in : goal.decreases-body_in
decreases-body_in l = 4 * l.room + 1

abbrev pub invariant-block_in-lines : goal.invariant-block_in-lines
invariant-block_in-lines l = Whole (project_of l.scope) l.place l.fn.known l.rows l.block l.rest

abbrev pub decreases-block_in-lines : goal.decreases-block_in-lines
decreases-block_in-lines l = length l.rest
