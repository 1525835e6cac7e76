use Rattle.elab_finish.proofs.Common.{◌≡◌, ◌+◌, ◌-◌, vec_len, head_in}
use Rattle.elab_finish.proofs.heads.Heads.lay.Given as goal

abbrev pub invariant-loop-self : goal.invariant-loop-self
invariant-loop-self l = head_in l.self.table.items ≡ head_in l.initial.self.table.items

abbrev pub decreases-loop-self : goal.decreases-loop-self
decreases-loop-self l = l.net + 1 - vec_len l.self.table
