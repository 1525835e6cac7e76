use Rattle.sat_solver.proofs.Common.{◌≡◌, ◌+◌, ◌++◌, ◌∷◌, [], ℤ, Bool, Option, None, length, nat_abs, ap, ◌∙◌, rules, arith, to_z-of_z, length-set, length_push, FitsSigned, w32, variable, IsUnwound}
use Rattle.sat_solver.proofs.Pushes.{unwind, variable-abs}
use Rattle.sat_solver.proofs.trail.unwind.Goals as goal

pub places-preserved-in-Some : goal.places-preserved-in-Some
places-preserved-in-Some c =
    let fits : FitsSigned w32 c.in-Some.l = search rules in
    let v : c.unsigned_abs.result ≡ variable c.in-Some.l = c.unsigned_abs.ensures.value ∙ ap nat_abs (to_z-of_z w32 c.in-Some.l fits) ∙ variable-abs c.in-Some.l in
    let popped : c.places.literals.items ≡ c.pop.new.self.items ++ c.in-Some.l ∷ [] = c.in-Some.ensures.items in
    let count : length c.places.literals.items ≡ length c.pop.new.self.items + 1 = ap (length {A = ℤ}) popped ∙ length_push c.pop.new.self.items c.in-Some.l in
    let un : IsUnwound c.places.values.items (c.pop.new.self.items ++ c.in-Some.l ∷ []) c.args.literals.now.items = rw popped at c.places.invariant.0 in
    let open_value : Option Bool = None in
    (rw v (unwind c.places.values.items c.pop.new.self.items c.args.literals.now.items c.in-Some.l un), length-set c.places.values.items c.unsigned_abs.result open_value ∙ c.places.invariant.1, omega (arith, count, c.places-test.true, c.len.ensures, c.places.literals.ok.0))
