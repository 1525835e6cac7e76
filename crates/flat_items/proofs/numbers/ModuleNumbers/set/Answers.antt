use Rattle.flat_items.proofs.Numbered.{updated_at}
use Rattle.flat_items.proofs.numbers.ModuleNumbers.set.Goals.{in-Ok, in-Err}
use Rattle.flat_items.proofs.numbers.ModuleNumbers.set.Goals as goal

pub returns : goal.returns
returns c = elim c.match-insert.branch [
  | in-Ok w ↦ rw w.result-is (rw (← c.self.view_is) (updated_at c.in_ok-key.key c.args.name.now c.self.inside.numbers c.insert.new.self c.args.number c.in_ok-key.ensures.ok (rw w.in-Ok.is at c.insert.ensures.updates)))
  | in-Err w ↦ rw w.result-is tt
]
