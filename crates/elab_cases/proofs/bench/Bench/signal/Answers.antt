use Rattle.std.proofs.Common.{arith}
use Rattle.vlog_meaning.specs.Scopes.{names_of}
use Rattle.elab_cases.proofs.Sound.{declared_stands}
use Rattle.elab_cases.proofs.bench.Bench.signal.Goals as goal

pub returns : goal.returns
returns c = declared_stands c.args.self.now.builder c.signal.new.self (names_of c.args.self.now.scope) (names_of c.declare.new.self) c.args.name.now _ c.args.width c.args.low c.args.is_signed c.in_ok-number.number c.in_ok-number.ensures.adds c.in_ok-number.ensures.number c.in-Ok.ensures.declared (omega arith) (omega arith) c.requires
