use Rattle.report_script.proofs.Common.{refl, body_in, project_of}
use Rattle.report_script.proofs.Lines.{part_fault, part_is, whole_end, whole_fault, whole_first, whole_more}
use Rattle.report_script.proofs.block.+read.Goals as goal

pub block_in-lines-init : goal.block_in-lines-init
block_in-lines-init t c = whole_first (project_of c.args.scope.now) c.args.place c.args.rows.now c.new_draft-draft.result c.new_draft-draft.ensures

pub block_in-returns-in-Err : goal.block_in-returns-in-Err
block_in-returns-in-Err t c = λ n. whole_fault (project_of c.args.scope.now) c.args.place c.args.rows.now c.lines.draft c.lines.rest.now _ c.first_rows-body.result.now _ c.row-item.result c.body_len-len.result c.in-len1-up.len_at_least c.row-item.is refl c.body_len-len.ensures.value c.first_rows-body.ensures refl c.lines.invariant c.in-Err.fault (c.in-Err.ensures n)

pub block_in-lines-preserved : goal.block_in-lines-preserved
block_in-lines-preserved t c = whole_more (project_of c.args.scope.now) c.args.place c.args.rows.now c.lines.draft c.lines.rest.now _ c.first_rows-body.result.now c.rows_behind-rest.result.now c.row-item.result c.body_len-len.result c.in-len1-up.len_at_least c.row-item.is refl c.body_len-len.ensures.value c.first_rows-body.ensures c.rows_behind-rest.ensures.value c.lines.invariant c.in-Ok.longer c.in-Ok.ensures

pub block_in-returns : goal.block_in-returns
block_in-returns t c = whole_end (project_of c.args.scope.now) c.args.place c.args.rows.now c.lines.draft c.lines.rest.now c.in_default.len_below c.lines.invariant

pub with_part-returns-in-Err : goal.with_part-returns-in-Err
with_part-returns-in-Err t c = λ n. part_fault (project_of c.args.scope.now) (body_in (project_of c.args.scope.now) c.args.place.room) c.args.place c.args.draft c.args.row.now c.args.body.now c.is_open.result c.in_ok-said.said c.inner_indent-indent.result c.is_open.ensures c.in_ok-said.ensures.reads c.inner_indent-indent.ensures c.in-Err.fault (c.in-Err.ensures n)

pub with_part-returns-in_ok-joined-in-Ok : goal.with_part-returns-in_ok-joined-in-Ok
with_part-returns-in_ok-joined-in-Ok t c = part_is (project_of c.args.scope.now) (body_in (project_of c.args.scope.now) c.args.place.room) c.args.place c.args.draft c.args.row.now c.args.body.now c.is_open.result c.in_ok-said.said c.inner_indent-indent.result c.is_open.ensures c.in_ok-said.ensures.reads c.inner_indent-indent.ensures c.in-Ok.inner c.in_ok-joined-in-Ok.field-0 c.in-Ok.ensures c.in_ok-joined-in-Ok.ensures
