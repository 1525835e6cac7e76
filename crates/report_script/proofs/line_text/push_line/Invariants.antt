use Rattle.report_script.proofs.Common.{◌≡◌, drop, extended, line_text}
use Rattle.report_script.proofs.line_text.push_line.Given as goal

abbrev pub invariant-loop-format : goal.invariant-loop-format
invariant-loop-format l = extended l.text.items (line_text (drop l.format-index l.formats) l.left l.counts) ≡ extended l.fn.text.items (line_text l.formats l.values l.counts)
