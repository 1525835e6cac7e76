use Rattle.campaign_reading.proofs.Common.{◌∙◌, sym}
use Rattle.campaign_reading.proofs.Judging.{lacking_found}
use Rattle.campaign_reading.proofs.preparing.take_omitted.Goals as goal

pub returns-then-lacks_sites-clause-refused : goal.returns-then-lacks_sites-clause-refused
returns-then-lacks_sites-clause-refused c =
    lacking_found c.args.project.now c.args.files.now c.args.netlist.now.raw c.in_ok-omitted.omitted.items c.deref.result.now c.in_ok-no_sites.field-0 c.deref.ensures.value c.in_ok-omitted.ensures (sym c.lacks_sites.ensures ∙ c.if-lacks_sites.true) c.in_ok-no_sites.ensures
