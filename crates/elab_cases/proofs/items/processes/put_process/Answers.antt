use Rattle.vlog_meaning.specs.Scopes.{names_of}
use Rattle.elab_cases.proofs.Sound.{same_stands}
use Rattle.elab_cases.proofs.items.processes.put_process.Goals as goal

pub returns-in-Some : goal.returns-in-Some
returns-in-Some c = same_stands (names_of c.args.bench.now.scope) (names_of c.process_refusal.new.scope) c.args.bench.now.builder c.in_ok-refusal.ensures.kept c.requires

pub returns-in-None : goal.returns-in-None
returns-in-None c = same_stands (names_of c.args.bench.now.scope) (names_of c.process_refusal.new.scope) c.args.bench.now.builder c.in_ok-refusal.ensures.kept c.requires
