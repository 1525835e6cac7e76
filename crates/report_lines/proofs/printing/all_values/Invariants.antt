use Rattle.std.proofs.Common.{length}
use Rattle.report_lines.specs.declared.parting.Level.TheVariants as level
use Rattle.report_lines.specs.Grammar.{inner}
use Rattle.report_lines.specs.Lines.{value_in}
use Rattle.report_lines.proofs.ShareList.{Whole}
use Rattle.report_lines.proofs.printing.all_values.Given as goal

abbrev pub invariant-signs : goal.invariant-signs
invariant-signs l = Whole (value_in (inner l.tags l.room)) level.Comma l.values l.rest l.tokens

abbrev pub decreases-signs : goal.decreases-signs
decreases-signs l = length l.rest
