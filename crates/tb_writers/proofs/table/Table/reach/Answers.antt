use Rattle.tb_writers.proofs.Common.{ℕ, List, ap, ◌∙◌, bits_of}
use Rattle.tb_writers.proofs.Tables.{room_more}
use Rattle.tb_writers.proofs.table.Table.reach.Goals as goal

pub loop-self-preserved : goal.loop-self-preserved
loop-self-preserved c = ap (λ (xs : List ℕ). bits_of xs) c.in_ok-push.ensures.items ∙ room_more c.loop-self.self-inside.masks.items ∙ c.loop-self.invariant
