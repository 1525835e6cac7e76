use Rattle.vlog_meaning.specs.Scopes.{names_of}
use Rattle.elab_cases.proofs.Sound.{built_stands}
use Rattle.elab_cases.proofs.items.assigns.build.Goals as goal

pub returns-in-Ok : goal.returns-in-Ok
returns-in-Ok c = built_stands (names_of c.args.bench.now.scope) c.args.bench.now.builder c.build_assign.new.builder c.in-Ok.ensures.built.ready c.in-Ok.ensures.built.adds.signals c.in-Ok.ensures.built.adds.nets c.requires
