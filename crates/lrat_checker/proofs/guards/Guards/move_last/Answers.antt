use Rattle.lrat_checker.proofs.Common.{◌≡◌, ◌-◌, ◌∙◌, ℕ, List, Some, length, slice_get, sym, subst, list_at, lists_of}
use Rattle.lrat_checker.proofs.Guarding.{list-at}
use Rattle.lrat_checker.proofs.guards.Guards.move_last.Goals as goal

pub move_out-requires-clause-last : goal.move_out-requires-clause-last
move_out-requires-clause-last c =
    let here : c.deref.result.now ≡ list_at (lists_of c.args.self.now) c.args.from = c.deref.ensures.value ∙ list-at (λ v. v.items) c.args.self.now.lists.items c.args.from c.index.result.now c.requires.from c.index.ensures in
    let P : List ℕ → Type 0 = λ xs. slice_get xs (length xs - 1) ≡ Some c.in-Some.number in
    subst P here (sym c.in-Some.ensures)
