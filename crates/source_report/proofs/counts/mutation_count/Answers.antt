use Rattle.source_report.proofs.Common.{◌≡◌, length, ap, sym, ◌∙◌, groups, length-asks, length-results}
use Rattle.source_report.proofs.Counted.{length-groups_from}
use Rattle.source_report.proofs.counts.mutation_count.Goals as goal

mutations : (c : goal.After-as_slice) → length c.as_slice.result.now ≡ length (groups c.args.campaign.now c.args.state.now.rows)
mutations c = ap length c.as_slice.ensures ∙ sym (length-groups_from c.args.campaign.now 0 (length c.args.campaign.now.mutations) c.args.state.now.rows)

pub returns-clause-groups : goal.returns-clause-groups
returns-clause-groups c = mutations c

pub returns-clause-results : goal.returns-clause-results
returns-clause-results c = ap length c.as_slice.ensures ∙ sym (length-results c.args.campaign.now c.args.state.now.rows c.args.state.now c.requires.state)

pub returns-clause-asks : goal.returns-clause-asks
returns-clause-asks c = ap length c.as_slice.ensures ∙ sym (length-asks c.args.campaign.now c.args.state.now.rows c.args.state.now c.requires.state)
