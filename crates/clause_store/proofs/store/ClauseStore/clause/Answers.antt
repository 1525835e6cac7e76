use Rattle.std.proofs.Common.{◌≡◌, length, arith, ap, ◌∙◌, sym}
use Rattle.clause_store.proofs.Cuts.{cut_count}
use Rattle.clause_store.proofs.store.ClauseStore.clause.Goals as goal

pub piece-requires-clause-there : goal.piece-requires-clause-there
piece-requires-clause-there c =
    let count : length c.self.inside.ends.items ≡ length c.args.self.now = sym (cut_count 0 c.self.inside.ends.items c.self.inside.literals.items) ∙ ap (length {A = _}) c.self.view_is in
    rw c.deref-2.ensures.value (omega (arith, count, c.requires.0, c.requires.1))
