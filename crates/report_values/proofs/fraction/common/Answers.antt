use Rattle.std.proofs.Common.{sym}
use Rattle.report_values.proofs.Dividing.{common_is, common_positive}
use Rattle.report_values.proofs.fraction.common.Goals as goal

pub returns-clause-value : goal.returns-clause-value
returns-clause-value c = sym (common_is c.args.numerator c.args.denominator _ c.requires c.gcd.ensures)

pub returns-clause-positive : goal.returns-clause-positive
returns-clause-positive c = common_positive c.args.numerator c.args.denominator _ c.requires c.gcd.ensures
