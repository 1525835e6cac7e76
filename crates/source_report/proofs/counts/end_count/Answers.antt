use Rattle.source_report.proofs.Common.{count_by, ap, refl, sym, ◌∙◌, arith, take_all, ask, groups, is_end}
use Rattle.source_report.proofs.Counted.{asks_told, count-map, count_no, count_yes}
use Rattle.source_report.proofs.counts.end_count.Goals as goal
use Rattle.source_report.proofs.counts.end_count.Goals.{then-is_of, else-is_of}

pub loop-mutation-preserved : goal.loop-mutation-preserved
loop-mutation-preserved c =
    let passes = is_end c.args.end in
    let asks = c.args.state.now.asks in
    elim c.if-is_of.branch [
      | then-is_of w ↦ (omega (arith, count_yes passes asks c.loop-mutation.mutation c.ask_of.result c.ask_of.ensures (sym c.is_of.ensures ∙ w.if-is_of.true)), omega arith)
      | else-is_of w ↦ (omega (arith, count_no passes asks c.loop-mutation.mutation c.ask_of.result c.ask_of.ensures (sym c.is_of.ensures ∙ w.if-is_of.false)), omega arith)
    ]

pub returns : goal.returns
returns c =
    c.loop-mutation.invariant.0
    ∙ ap (count_by (is_end c.args.end)) (take_all c.loop-mutation.mutation c.args.state.now.asks (omega arith) ∙ c.requires.state.asks ∙ asks_told c.args.campaign.now c.args.state.now.rows c.requires.fit)
    ∙ count-map (is_end c.args.end) (λ answers. is_end c.args.end (ask c.args.campaign.now answers)) (ask c.args.campaign.now) (λ answers. refl) (groups c.args.campaign.now c.args.state.now.rows)
