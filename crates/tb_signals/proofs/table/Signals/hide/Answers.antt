use Rattle.std.proofs.Common.{◌≡◌, length, arith}
use Rattle.vlog_meaning.specs.Scopes.{names_of}
use Rattle.tb_signals.proofs.Standing.{hidden_stands}
use Rattle.tb_signals.proofs.table.Signals.hide.Goals as goal

pub invariant_of-self-2 : goal.invariant_of-self-2
invariant_of-self-2 c =
    let at : c.in-Ok.number ≡ length c.self.inside.starts.items = omega arith in
    hidden_stands (names_of c.self.inside.scope) (names_of c.declare.new.scope) c.self.inside.starts.items c.push.new.self.items c.zero.result c.args.name.now c.args.is_signed c.in-Ok.number c.args.width c.in_ok-push.ensures.items c.zero.ensures.width at c.in_ok-declare.ensures.names c.self.invariant
