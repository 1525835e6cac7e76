use Rattle.std.proofs.Common.{◌≡◌, ℕ, ℤ, ◌+◌, ◌∷◌, ◌++◌, [], List, length, length-append, zero-add, sum_by, arith, ap, ◌∙◌, sym}
use Rattle.std.proofs.lemmas.List.{length_push}
use Rattle.clause_store.specs.Layout.{IsLaidOut}
use Rattle.clause_store.proofs.Cuts.{cut_count, cut-push, laid_out-push, cut_sum}
use Rattle.clause_store.proofs.store.ClauseStore.push.Goals as goal

-- the new buffer, and the new ends
buffer_is : (c : goal.After-len-2) → c.extend_from_slice.new.self.items ≡ c.self.inside.literals.items ++ c.args.lits.now
buffer_is c = c.in_ok-extend_from_slice.ensures.items

ends_are : (c : goal.After-len-2) → c.push.new.self.items ≡ c.self.inside.ends.items ++ (length c.self.inside.literals.items + length c.args.lits.now) ∷ []
ends_are c =
    let total : c.len.result ≡ length c.self.inside.literals.items + length c.args.lits.now = c.len.ensures ∙ c.extend_from_slice.new.self.ok.0 ∙ ap (length {A = ℤ}) (buffer_is c) ∙ length-append c.self.inside.literals.items c.args.lits.now in
    c.in_ok-push.ensures.items ∙ ap (λ (l : List ℕ). l ++ c.len.result ∷ []) c.in_ok-reserve.ensures.items ∙ ap (λ (n : ℕ). c.self.inside.ends.items ++ n ∷ []) total

pub invariant_of-self-2 : goal.invariant_of-self-2
invariant_of-self-2 c =
    let sum : length c.self.inside.literals.items + length c.args.lits.now ≡ length c.extend_from_slice.new.self.items = sym (length-append c.self.inside.literals.items c.args.lits.now) ∙ sym (ap (length {A = ℤ}) (buffer_is c)) in
    let laid : IsLaidOut 0 c.push.new.self.items (length c.extend_from_slice.new.self.items) = rw (ends_are c, ← sum) (laid_out-push 0 c.self.inside.ends.items (length c.self.inside.literals.items) (length c.args.lits.now) c.self.invariant.0) in
    let all : sum_by length c.args.self.now ≡ length c.self.inside.literals.items = rw (c.self.view_is, zero-add) at (cut_sum 0 c.self.inside.ends.items c.self.inside.literals.items c.self.invariant.0) in
    let count : length c.self.inside.ends.items ≡ length c.args.self.now = sym (cut_count 0 c.self.inside.ends.items c.self.inside.literals.items) ∙ ap (length {A = _}) c.self.view_is in
    let pushed : length c.push.new.self.items ≡ length c.self.inside.ends.items + 1 = ap (length {A = ℕ}) (ends_are c) ∙ length_push c.self.inside.ends.items _ in
    (laid, omega (arith, sum, all, c.requires.room), omega (arith, pushed, count, c.requires.number))

pub returns-clause-ok : goal.returns-clause-ok
returns-clause-ok c = rw (ends_are c, buffer_is c, ← c.self.view_is) (cut-push 0 c.self.inside.ends.items c.self.inside.literals.items c.args.lits.now c.self.invariant.0)

pub returns-clause-number : goal.returns-clause-number
returns-clause-number c = rw cut_count (c.len-2.ensures ∙ c.push.new.self.ok.0)
