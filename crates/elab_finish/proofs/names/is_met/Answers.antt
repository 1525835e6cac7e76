use Rattle.elab_finish.proofs.Common.{sym, ◌∙◌}
use Rattle.elab_finish.proofs.Naming.{met_more}
use Rattle.elab_finish.proofs.names.is_met.Goals as goal

pub returns-then-contains : goal.returns-then-contains
returns-then-contains c = λ names has. (has c.args.name.now).0 (sym c.contains.ensures ∙ c.if-contains.true)

pub returns : goal.returns
returns c = λ names has. met_more names c.args.name.now c.in_ok-key.key c.args.met.now c.insert.new.self c.in_ok-key.ensures.ok has (sym c.contains.ensures ∙ c.if-contains.false) c.in_ok-insert.ensures.updates
