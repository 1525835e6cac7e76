use Rattle.source_report.proofs.Common.{arith, Tag}
use Rattle.source_report.proofs.Named.{ends_few}
use Rattle.source_report.proofs.requirement.tag_count.Goals as goal

pub returns-then-is_named-clause-few : goal.returns-then-is_named-clause-few
returns-then-is_named-clause-few c = omega (arith, c.end_count.ensures, ends_few c.args.campaign.now c.args.state.now.rows (Tag c.tag_bit.result) c.requires.fit)
