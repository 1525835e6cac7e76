use Rattle.std.proofs.Common.{true}
use Rattle.vlog_meaning.specs.Scopes.{names_of}
use Rattle.elab_cases.proofs.Sound.{constant_stands}
use Rattle.elab_cases.proofs.bench.Bench.add_constant.Goals as goal

pub returns : goal.returns
returns c = constant_stands (names_of c.args.self.now.scope) (names_of c.declare.new.self) c.args.self.now.builder c.args.name.now c.args.value 0 true c.in-Ok.ensures.declared c.requires.some c.requires.narrow c.requires.sound
