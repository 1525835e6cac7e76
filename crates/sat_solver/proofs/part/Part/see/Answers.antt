use Rattle.sat_solver.proofs.Common.{◌≡◌, ◌+◌, ◌-◌, ◌++◌, ◌∷◌, [], ℕ, ℤ, List, false, length, get_or, refl, ap, sym, ◌∙◌, arith}
use Rattle.sat_solver.proofs.Kept.{clause-is}
use Rattle.sat_solver.proofs.Picking.{part-room, part-taken, part-skipped}
use Rattle.sat_solver.proofs.part.Part.see.Goals as goal

pub push-requires-clause-number : goal.push-requires-clause-number
push-requires-clause-number c = omega (arith, (part-room c.args.left_out.now c.args.all.now c.args.self.now c.requires.part c.requires.next).0, c.len-clauses.ensures.small)

pub push-requires-clause-room : goal.push-requires-clause-room
push-requires-clause-room c =
    let place : c.args.self.now.seen + 1 - 1 ≡ c.args.self.now.seen = omega arith in
    let at : get_or c.args.all.now c.args.self.now.seen [] ≡ c.clause.result.now = ap (λ (n : ℕ). get_or c.args.all.now n []) (sym place) ∙ clause-is c.args.all.now (c.args.self.now.seen + 1 - 1) c.clause.result.now c.clause.ensures in
    omega (arith, (part-room c.args.left_out.now c.args.all.now c.args.self.now c.requires.part c.requires.next).1, ap (length {A = ℤ}) at, c.literals-literals.ensures.small)

pub returns-then-is_left_out-clause-part : goal.returns-then-is_left_out-clause-part
returns-then-is_left_out-clause-part c = part-skipped c.args.left_out.now c.args.all.now c.args.self.now _ c.requires.part c.requires.next (sym c.if-is_left_out.ensures) refl refl refl

pub returns-clause-part : goal.returns-clause-part
returns-clause-part c =
    let place : c.args.self.now.seen + 1 - 1 ≡ c.args.self.now.seen = omega arith in
    let at : get_or c.args.all.now c.args.self.now.seen [] ≡ c.clause.result.now = ap (λ (n : ℕ). get_or c.args.all.now n []) (sym place) ∙ clause-is c.args.all.now (c.args.self.now.seen + 1 - 1) c.clause.result.now c.clause.ensures in
    let flag : get_or c.args.left_out.now c.args.self.now.seen false ≡ false = sym c.if-is_left_out.ensures in
    part-taken c.args.left_out.now c.args.all.now c.args.self.now _ (c.args.self.now.seen + 1) c.requires.part c.requires.next flag refl
    (c.in_ok-push.ensures.ok ∙ ap (λ (clause : List ℤ). c.args.self.now.store ++ clause ∷ []) (sym at))
    (c.in_ok-push-2.ensures.items ∙ ap (λ (numbers : List ℕ). numbers ++ (c.args.self.now.seen + 1) ∷ []) c.in_ok-reserve.ensures.items)
    refl
