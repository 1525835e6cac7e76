use Rattle.std.proofs.Math.Seq.{map-set}
use Rattle.tb_signals.proofs.Standing.{widths_stay}
use Rattle.tb_signals.proofs.table.Signals.start.Goals as goal

pub invariant_of-self : goal.invariant_of-self
invariant_of-self c = λ name. rw (widths_stay c.self.inside.starts.items c.args.number c.args.value (rw (← c.self.view_is) at c.requires.known) (rw (← c.self.view_is) at c.requires.width)) (c.self.invariant name)

pub returns-clause-widths : goal.returns-clause-widths
returns-clause-widths c = rw (← c.self.view_is) (widths_stay c.self.inside.starts.items c.args.number c.args.value (rw (← c.self.view_is) at c.requires.known) (rw (← c.self.view_is) at c.requires.width))

pub returns-clause-values : goal.returns-clause-values
returns-clause-values c = rw (← c.self.view_is) (map-set (λ w. w.bits) c.self.inside.starts.items c.args.number c.args.value)
