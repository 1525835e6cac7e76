use Rattle.campaign_reading.proofs.Common.{length, design_files}
use Rattle.campaign_reading.proofs.First.{top_found}
use Rattle.campaign_reading.proofs.preparing.take_trials.Goals as goal

pub unwrap-top-requires : goal.unwrap-top-requires
unwrap-top-requires c =
    top_found (length (design_files c.args.project.now)) c.args.files.now c.args.modules.now c.args.project.now.top c.as_str.result.now c.args.netlist.now.raw c.top_of.result c.as_str.ensures c.requires.read c.requires.design c.top_of.ensures.none
