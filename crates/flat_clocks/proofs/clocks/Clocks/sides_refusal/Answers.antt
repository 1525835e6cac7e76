use Rattle.flat_clocks.proofs.clocks.Clocks.sides_refusal.Goals as goal

pub returns : goal.returns
returns c = c.earlier.ensures _ _ c.left_refusal.ensures c.value_refusal.ensures
