use Rattle.std.proofs.Common.{◌∙◌, ◌+◌, ap, drop, sym, arith}
use Rattle.report_lines.specs.Formats.{formats_from}
use Rattle.report_lines.proofs.FormatList.{byte_more, byte_none, end_done, end_open}
use Rattle.report_lines.proofs.ShareList.{behind}
use Rattle.report_lines.proofs.format.formats.Goals as goal

pub returns-in_default : goal.returns-in_default
returns-in_default c = sym (byte_none c.loop-byte.formats c.loop-byte.begun c.args.text.now c.loop-byte.byte-index _ (omega arith) (sym c.byte_step.ensures ∙ c.in_default.is)) ∙ c.loop-byte.invariant

pub loop-byte-preserved : goal.loop-byte-preserved
loop-byte-preserved c =
    ap (λ fs. behind fs (formats_from c.in-Some.step.begun (drop (c.loop-byte.byte-index + 1) c.args.text.now))) c.in_ok-formats.ensures
    ∙ (sym (byte_more c.loop-byte.formats c.loop-byte.begun c.args.text.now c.loop-byte.byte-index _ c.in-Some.step (omega arith) (sym c.byte_step.ensures ∙ c.in-Some.is)) ∙ c.loop-byte.invariant)

pub returns-then-is_between : goal.returns-then-is_between
returns-then-is_between c = end_done c.loop-byte.formats c.loop-byte.begun c.args.text.now c.loop-byte.byte-index _ (omega arith) (sym c.is_between.ensures ∙ c.if-is_between.true) c.loop-byte.invariant

pub returns-else-is_between : goal.returns-else-is_between
returns-else-is_between c = end_open c.loop-byte.formats c.loop-byte.begun c.args.text.now c.loop-byte.byte-index _ (omega arith) (sym c.is_between.ensures ∙ c.if-is_between.false) c.loop-byte.invariant
