use Rattle.elab_proc.proofs.refusal.earlier.Goals as goal

pub returns : goal.returns
returns c = c.earlier.ensures.joined
