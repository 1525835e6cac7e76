use Rattle.std.proofs.Common.{◌≡◌, drop}
use Rattle.report_lines.specs.Formats.{formats_from, formats_of}
use Rattle.report_lines.proofs.ShareList.{behind}
use Rattle.report_lines.proofs.format.formats.Given as goal

abbrev pub invariant-loop-byte : goal.invariant-loop-byte
invariant-loop-byte l = behind l.formats (formats_from l.begun (drop l.byte-index l.text)) ≡ formats_of l.text
