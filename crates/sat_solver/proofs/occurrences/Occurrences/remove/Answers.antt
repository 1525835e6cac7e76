use Rattle.sat_solver.proofs.Common.{◌≡◌, ◌<◌, ◌-◌, ◌∙◌, ℕ, List, [], length, take, map, get_or, set, ap, rules, arith, FitsSigned, swap_remove, w32, to_z-of_z, length-map, get_or_default}
use Rattle.sat_solver.proofs.Common.{get_or-set_same, get_or-set_other, place_of, list_of, list-at, list-changed}
use Rattle.sat_solver.proofs.occurrences.Occurrences.remove.Goals as goal

pub swap_remove-requires : goal.swap_remove-requires
swap_remove-requires c =
    let fits : FitsSigned w32 c.args.l = search rules in
    let place : c.place_of.result ≡ place_of c.args.l = rw (to_z-of_z w32 c.args.l fits) at c.place_of.ensures in
    let within : c.place_of.result < length c.self.inside.lists.items = omega (arith, place, c.requires.literal, ap (length {A = List ℕ}) c.self.view_is, length-map c.self.inside.lists.items (λ v. v.items)) in
    let at : c.index_mut.result.now.items ≡ list_of c.args.self.now c.args.l = list-at (λ v. v.items) c.self.inside.lists.items c.place_of.result c.index_mut.result.now within c.index_mut.ensures.value
    ∙ ap (λ (p : ℕ). get_or (map (λ v. v.items) c.self.inside.lists.items) p []) place ∙ ap (λ (xs : List (List ℕ)). get_or xs (place_of c.args.l) []) c.self.view_is in
    omega (arith, c.requires.place, ap (length {A = ℕ}) at, c.index_mut.result.now.ok.0)

pub returns-clause-list : goal.returns-clause-list
returns-clause-list c =
    let fits : FitsSigned w32 c.args.l = search rules in
    let place : c.place_of.result ≡ place_of c.args.l = rw (to_z-of_z w32 c.args.l fits) at c.place_of.ensures in
    let within : c.place_of.result < length c.self.inside.lists.items = omega (arith, place, c.requires.literal, ap (length {A = List ℕ}) c.self.view_is, length-map c.self.inside.lists.items (λ v. v.items)) in
    let at : c.index_mut.result.now.items ≡ list_of c.args.self.now c.args.l = list-at (λ v. v.items) c.self.inside.lists.items c.place_of.result c.index_mut.result.now within c.index_mut.ensures.value
    ∙ ap (λ (p : ℕ). get_or (map (λ v. v.items) c.self.inside.lists.items) p []) place ∙ ap (λ (xs : List (List ℕ)). get_or xs (place_of c.args.l) []) c.self.view_is in
    let old : List ℕ = c.index_mut.result.now.items in
    let some : length c.index_mut.result.now.items - 1 < length c.index_mut.result.now.items = omega (arith, c.requires.place, ap (length {A = ℕ}) at) in
    let changed : c.swap_remove.new.self.items ≡ swap_remove c.index_mut.result.now.items c.args.place 0 = c.swap_remove.ensures.items ∙ ap (λ (x : ℕ). take (length c.index_mut.result.now.items - 1) (set c.index_mut.result.now.items c.args.place x)) (get_or_default c.index_mut.result.now.items (length c.index_mut.result.now.items - 1) c.swap_remove.result 0 some) in
    let lists = list-changed (λ v. v.items) (λ xs. swap_remove xs c.args.place 0) c.self.inside.lists.items c.place_of.result (place_of c.args.l) c.index_mut.result.now c.swap_remove.new.self within c.index_mut.ensures.value place changed in
    let inside : place_of c.args.l < length (map (λ v. v.items) c.self.inside.lists.items) = omega (arith, place, within, length-map c.self.inside.lists.items (λ v. v.items)) in
    ap (λ (xs : List (List ℕ)). list_of xs c.args.l) lists
    ∙ get_or-set_same (map (λ v. v.items) c.self.inside.lists.items) (place_of c.args.l) (swap_remove (get_or (map (λ v. v.items) c.self.inside.lists.items) (place_of c.args.l) []) c.args.place 0) [] inside
    ∙ ap (λ (xs : List (List ℕ)). swap_remove (get_or xs (place_of c.args.l) []) c.args.place 0) c.self.view_is

pub returns-clause-others : goal.returns-clause-others
returns-clause-others c m other =
    let fits : FitsSigned w32 c.args.l = search rules in
    let place : c.place_of.result ≡ place_of c.args.l = rw (to_z-of_z w32 c.args.l fits) at c.place_of.ensures in
    let within : c.place_of.result < length c.self.inside.lists.items = omega (arith, place, c.requires.literal, ap (length {A = List ℕ}) c.self.view_is, length-map c.self.inside.lists.items (λ v. v.items)) in
    let new : List ℕ = c.swap_remove.new.self.items in
    let lists = list-changed (λ v. v.items) (λ xs. c.swap_remove.new.self.items) c.self.inside.lists.items c.place_of.result (place_of c.args.l) c.index_mut.result.now c.swap_remove.new.self within c.index_mut.ensures.value place (Rattle.std.proofs.Common.refl) in
    ap (λ (xs : List (List ℕ)). list_of xs m) lists
    ∙ get_or-set_other (map (λ v. v.items) c.self.inside.lists.items) (place_of c.args.l) (place_of m) c.swap_remove.new.self.items [] other
    ∙ ap (λ (xs : List (List ℕ)). list_of xs m) c.self.view_is
