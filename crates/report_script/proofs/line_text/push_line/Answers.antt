use Rattle.report_script.proofs.Walking.{format_fault, format_more, formats_end}
use Rattle.report_script.proofs.Common.{arith}
use Rattle.report_script.proofs.line_text.push_line.Goals as goal

pub returns-in-Err-Fault : goal.returns-in-Err-Fault
returns-in-Err-Fault c = rw c.in-Err-Fault.field-0-is (format_fault c.args.counts.now c.args.formats.now c.loop-format.format-index _ c.loop-format.left.now c.loop-format.text.items _ (omega arith) c.loop-format.invariant c.in-Err-Fault.fault (rw c.in-Err-Fault.field-0-is at c.in-Err-Fault.ensures))

pub loop-format-preserved : goal.loop-format-preserved
loop-format-preserved c = format_more c.args.counts.now c.args.formats.now c.loop-format.format-index _ c.loop-format.left.now c.loop-format.text.items _ (omega arith) c.loop-format.invariant c.push_format.new.text.items c.left_behind-left.result.now c.in-Ok.ensures c.left_behind-left.ensures

pub returns : goal.returns
returns c = formats_end c.args.counts.now c.args.formats.now c.loop-format.format-index c.loop-format.left.now c.loop-format.text.items _ (omega arith) c.loop-format.invariant
