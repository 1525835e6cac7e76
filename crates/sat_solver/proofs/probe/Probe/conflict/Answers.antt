use Rattle.sat_solver.proofs.Common.{◌≡◌, ℕ, true, length, ap, ◌∙◌, subst, IsDecided, IsFocus, in_use}
use Rattle.sat_solver.proofs.Probing.{done-whole, done-end}
use Rattle.sat_solver.proofs.probe.Probe.conflict.Goals as goal

pub returns-then-self-clause-end : goal.returns-then-self-clause-end
returns-then-self-clause-end c =
    let decided : IsDecided (in_use c.args.checker.now c.conflict_in_focus.new.self) c.conflict_in_focus.new.self.focus.bits.items c.conflict_in_focus.new.self.propagator.trail.values.items = rw c.in_default.is at c.in_ok-conflict.ensures.end in
    rw c.requires.free (done-whole c.args.checker.now c.conflict_in_focus.new.self c.conflict_in_focus.new.self.propagator.trail.values.items c.conflict_in_focus.ensures.probing.focus c.if-self.true decided)

pub conflict_in_focus-requires-2-clause-probing : goal.conflict_in_focus-requires-2-clause-probing
conflict_in_focus-requires-2-clause-probing c =
    let P : ℕ → Type 0 = λ free. IsFocus (length c.args.checker.now.clauses) free c.in_ok-focus.focus in
    c.in_ok-self.ensures.probing c.args.checker.now (subst P c.requires.free (c.in_ok-focus.ensures.focus (length c.args.checker.now.clauses)))

pub returns-clause-end : goal.returns-clause-end
returns-clause-end c =
    let whole : c.conflict_in_focus-2.new.self.focus.whole ≡ true = ap (λ focus. focus.whole) (c.conflict_in_focus-2.ensures.focus ∙ c.in_ok-self.ensures.focus) ∙ c.in_ok-focus.ensures.whole in
    rw c.requires.free (done-end c.args.checker.now c.conflict_in_focus-2.new.self c.conflict_in_focus-2.new.self.propagator.trail.values.items c.conflict_in_focus-2.result c.conflict_in_focus-2.ensures.probing.focus whole c.conflict_in_focus-2.ensures.end)
