use Rattle.std.proofs.Common.{arith}
use Rattle.report_values.proofs.Dividing.{left_positive, lowest_left, same_left}
use Rattle.report_values.proofs.fraction.lowest.Goals as goal

pub returns-clause-small : goal.returns-clause-small
returns-clause-small c = record {
  numerator = omega (arith, c.if-numerator-gt-LIMIT.false);
  positive = left_positive c.args.numerator c.args.denominator c.common-divisor.result c.requires c.common-divisor.ensures.greatest;
  denominator = omega (arith, c.if-denominator-gt-LIMIT.false);
}

pub returns-clause-value : goal.returns-clause-value
returns-clause-value c = record {
  same = same_left c.args.numerator c.args.denominator c.common-divisor.result c.common-divisor.ensures.greatest;
  lowest = lowest_left c.args.numerator c.args.denominator c.common-divisor.result c.requires c.common-divisor.ensures.greatest;
}
