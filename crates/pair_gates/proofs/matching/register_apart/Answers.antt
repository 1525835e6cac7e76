use Rattle.std.proofs.lemmas.Result.{IfOk-weaker}
use Rattle.pair_gates.proofs.Standing.{registers-told, registers-stood, last-register}
use Rattle.pair_gates.proofs.matching.register_apart.Goals as goal

pub returns : goal.returns
returns c =
    let first = registers-stood c.as_slice-registers.result.now c.args.original.now.registers c.as_slice-others.result.now c.args.mutant.now.registers c.as_slice-registers.ensures c.as_slice-others.ensures c.in_ok-name.field-0 c.in_default.is c.in_ok-name.ensures in
    IfOk-weaker c.register_name-2.result _ _ (λ name told. last-register c.args.original.now c.args.mutant.now name first (registers-told c.as_slice-others.result.now c.args.mutant.now.registers c.as_slice-registers.result.now c.args.original.now.registers c.as_slice-others.ensures c.as_slice-registers.ensures name told)) c.register_name-2.ensures
