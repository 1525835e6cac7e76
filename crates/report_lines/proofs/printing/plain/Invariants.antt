use Rattle.std.proofs.Common.{◌≡◌, map, take}
use Rattle.report_lines.specs.declared.format.Format.TheVariants.{Byte}
use Rattle.report_lines.proofs.printing.plain.Given as goal

abbrev pub invariant-loop-byte : goal.invariant-loop-byte
invariant-loop-byte l = l.formats ≡ map Byte (take l.byte-index l.text)
