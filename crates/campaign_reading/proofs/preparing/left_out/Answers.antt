use Rattle.campaign_reading.proofs.Common.{IfOk-weaker, LeavesOut}
use Rattle.campaign_reading.proofs.Judging.{left_found}
use Rattle.campaign_reading.proofs.preparing.left_out.Goals as goal

pub returns : goal.returns
returns c =
    IfOk-weaker c.omitted_sites.result _ (λ omitted. LeavesOut c.args.project.now c.args.files.now c.args.netlist.now.raw omitted.items)
    (λ omitted are. left_found c.args.project.now c.args.files.now c.in_ok-design.design.now c.as_str-top.result.now c.as_slice-instances.result.now c.args.netlist.now.raw c.in_ok-skipped.skipped.items c.deref.result.now omitted.items c.in_ok-design.ensures c.as_str-top.ensures c.as_slice-instances.ensures c.deref.ensures.value c.in_ok-skipped.ensures are)
    c.omitted_sites.ensures
