use Rattle.sat_solver.proofs.Common.{◌≡◌, ◌<◌, List, ℕ, [], length, get_or, map, ap, ◌∙◌, rules, arith, FitsSigned, w32, to_z-of_z, length-map, place_of, list-at}
use Rattle.sat_solver.proofs.occurrences.Occurrences.of.Goals as goal

pub returns : goal.returns
returns c =
    let fits : FitsSigned w32 c.args.l = search rules in
    let place : c.place_of.result ≡ place_of c.args.l = rw (to_z-of_z w32 c.args.l fits) at c.place_of.ensures in
    let inside : c.place_of.result < length c.self.inside.lists.items = omega (arith, place, c.requires, ap (length {A = List ℕ}) c.self.view_is, length-map c.self.inside.lists.items (λ v. v.items)) in
    c.deref.ensures.value ∙ list-at (λ v. v.items) c.self.inside.lists.items c.place_of.result c.index.result.now inside c.index.ensures
    ∙ ap (λ (p : ℕ). get_or (map (λ v. v.items) c.self.inside.lists.items) p []) place ∙ ap (λ (xs : List (List ℕ)). get_or xs (place_of c.args.l) []) c.self.view_is
