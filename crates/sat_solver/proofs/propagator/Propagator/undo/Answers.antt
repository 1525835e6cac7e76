use Rattle.sat_solver.proofs.Common.{◌≡◌, ℕ, length, take, get_or, ap, sym, ◌∙◌, refl, subst, arith, get_or_default, Trail, assigned, IsUnwound, IsIndexed}
use Rattle.sat_solver.proofs.Undone.{kept-undone}
use Rattle.sat_solver.proofs.propagator.Propagator.undo.Goals as goal

pub returns-then-self-start-clause-kept : goal.returns-then-self-start-clause-kept
returns-then-self-start-clause-kept c clauses kept quiet =
    let start : c.index.result.now ≡ get_or c.args.self.now.trail.starts.items c.args.level 0 = c.index.ensures ∙ sym (get_or_default c.args.self.now.trail.starts.items c.args.level 0 c.index.result.now c.requires.level) in
    let P : ℕ → Type 0 = λ n. IsIndexed kept.counted (assigned (take n c.args.self.now.trail.literals.items)) c.uncount.new.self.occurrences c.uncount.new.self.counts.falses.items c.uncount.new.self.counts.trues.items in
    let Q : Trail → Type 0 = λ t. IsUnwound c.undo.new.self.values.items c.undo.new.self.literals.items t.literals.items in
    kept-undone clauses c.args.self.now _ c.args.level (get_or c.args.self.now.trail.starts.items c.args.level 0) kept c.requires.level refl quiet c.uncount.ensures.steady.taken (omega (arith, start)) c.uncount.ensures.steady.occurrences c.uncount.ensures.steady.watches
    (c.undo.ensures.starts ∙ ap (λ t. take c.args.level t.starts.items) c.uncount.ensures.trail)
    (subst P start (c.uncount.ensures.indexed clauses kept)) (subst Q c.uncount.ensures.trail c.undo.ensures.unwound)
    (c.undo.ensures.literals ∙ ap (λ t. get_or t.starts.items c.args.level 0) c.uncount.ensures.trail)
    (c.undo.ensures.len ∙ ap (λ t. length t.values.items) c.uncount.ensures.trail)

pub returns-else-self-start-clause-kept : goal.returns-else-self-start-clause-kept
returns-else-self-start-clause-kept c clauses kept quiet =
    let start : c.index.result.now ≡ get_or c.args.self.now.trail.starts.items c.args.level 0 = c.index.ensures ∙ sym (get_or_default c.args.self.now.trail.starts.items c.args.level 0 c.index.result.now c.requires.level) in
    let P : ℕ → Type 0 = λ n. IsIndexed kept.counted (assigned (take n c.args.self.now.trail.literals.items)) c.uncount.new.self.occurrences c.uncount.new.self.counts.falses.items c.uncount.new.self.counts.trues.items in
    let Q : Trail → Type 0 = λ t. IsUnwound c.undo.new.self.values.items c.undo.new.self.literals.items t.literals.items in
    kept-undone clauses c.args.self.now _ c.args.level (get_or c.args.self.now.trail.starts.items c.args.level 0) kept c.requires.level refl quiet c.uncount.ensures.steady.taken (omega (arith, start, c.if-self-start.false)) c.uncount.ensures.steady.occurrences c.uncount.ensures.steady.watches
    (c.undo.ensures.starts ∙ ap (λ t. take c.args.level t.starts.items) c.uncount.ensures.trail)
    (subst P start (c.uncount.ensures.indexed clauses kept)) (subst Q c.uncount.ensures.trail c.undo.ensures.unwound)
    (c.undo.ensures.literals ∙ ap (λ t. get_or t.starts.items c.args.level 0) c.uncount.ensures.trail)
    (c.undo.ensures.len ∙ ap (λ t. length t.values.items) c.uncount.ensures.trail)
