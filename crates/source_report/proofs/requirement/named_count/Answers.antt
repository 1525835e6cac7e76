use Rattle.source_report.proofs.Common.{◌≡◌, [], length, drop, ap, ◌∙◌, arith, drop_all, groups, named_count}
use Rattle.source_report.proofs.Named.{named-more}
use Rattle.source_report.proofs.requirement.named_count.Goals as goal

pub overflow_add-count : goal.overflow_add-count
overflow_add-count c = omega (arith, c.loop-tag.invariant.1, c.tag_count-count.ensures.few, ap length c.as_slice-name-items.ensures, c.requires.fit.few_tags)

pub loop-tag-preserved : goal.loop-tag-preserved
loop-tag-preserved c = (
  named-more c.args.campaign.now (groups c.args.campaign.now c.args.state.now.rows) c.args.wanted.now c.loop-tag.tag c.args.campaign.now.tags c.as_str.result.now c.loop-tag.count c.tag_count-count.result
      (omega (arith, ap length c.as_slice-name-items.ensures)) (cc) c.tag_count-count.ensures.is ∙ c.loop-tag.invariant.0,
  omega (arith, c.loop-tag.invariant.1, c.tag_count-count.ensures.few),
)

-- no tag is to come
pub returns : goal.returns
returns c =
    let long = ap length c.as_slice-name-items.ensures in
    let none : drop c.loop-tag.tag c.args.campaign.now.tags ≡ [] = drop_all c.loop-tag.tag c.args.campaign.now.tags (omega (arith, long, c.loop-tag-test.false)) in
    let rest : named_count c.args.campaign.now (groups c.args.campaign.now c.args.state.now.rows) c.args.wanted.now c.loop-tag.tag (drop c.loop-tag.tag c.args.campaign.now.tags) ≡ 0 =
    ap (named_count c.args.campaign.now (groups c.args.campaign.now c.args.state.now.rows) c.args.wanted.now c.loop-tag.tag) none in
    omega (arith, rest, c.loop-tag.invariant.0)
