use Rattle.std.proofs.lemmas.Result.{IfOk-weaker}
use Rattle.pair_gates.proofs.Standing.{ports-told, ports-stood, last-port}
use Rattle.pair_gates.proofs.matching.port_apart.Goals as goal

pub returns : goal.returns
returns c =
    let first = ports-stood c.as_slice-inputs.result.now c.args.original.now.inputs c.as_slice-others.result.now c.args.mutant.now.inputs c.as_slice-inputs.ensures c.as_slice-others.ensures c.in_ok-name.field-0 c.in_default.is c.in_ok-name.ensures in
    let second = ports-stood c.as_slice-outputs.result.now c.args.original.now.outputs c.as_slice-shown.result.now c.args.mutant.now.outputs c.as_slice-outputs.ensures c.as_slice-shown.ensures c.in_ok-name-2.field-0 c.in_default-2.is c.in_ok-name-2.ensures in
    let third = ports-stood c.as_slice-others.result.now c.args.mutant.now.inputs c.as_slice-inputs.result.now c.args.original.now.inputs c.as_slice-others.ensures c.as_slice-inputs.ensures c.in_ok-name-3.field-0 c.in_default-3.is c.in_ok-name-3.ensures in
    IfOk-weaker c.port_name-4.result _ _ (λ name told. last-port c.args.original.now c.args.mutant.now name first second third (ports-told c.as_slice-shown.result.now c.args.mutant.now.outputs c.as_slice-outputs.result.now c.args.original.now.outputs c.as_slice-shown.ensures c.as_slice-outputs.ensures name told)) c.port_name-4.ensures
