use Rattle.source_report.proofs.Common.{count_by, ap, refl, ◌∙◌, ask, is_ended, groups}
use Rattle.source_report.proofs.Counted.{asks_told, count-map}
use Rattle.source_report.proofs.counts.finished_count.Goals as goal

pub returns : goal.returns
returns c =
    c.finished.ensures
    ∙ ap (count_by is_ended) (c.requires.state.asks ∙ asks_told c.args.campaign.now c.args.state.now.rows c.requires.fit)
    ∙ count-map is_ended (λ answers. is_ended (ask c.args.campaign.now answers)) (ask c.args.campaign.now) (λ answers. refl) (groups c.args.campaign.now c.args.state.now.rows)
