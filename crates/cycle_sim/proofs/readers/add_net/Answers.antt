use Rattle.cycle_sim.proofs.Common.{◌≡◌, ℕ, List, [], ◌∷◌, ◌++◌, get_or, set, refl, sym, ◌∙◌, ap, subst, Contains, get_or_read, place_of, AreAdded}
use Rattle.cycle_sim.proofs.ReaderLists.{net-there, net-added}
use Rattle.cycle_sim.proofs.readers.add_net.Goals as goal

pub returns-then-ends_with : goal.returns-then-ends_with
returns-then-ends_with c =
    let lists : List (List ℕ) = c.args.readers.now.items in
    let d : ℕ = (place_of c.args.places.now c.args.net).driver in
    let is : c.as_slice.result.now ≡ get_or lists d [] = c.as_slice.ensures ∙ get_or_read lists d c.index.result.now c.requires.inside c.index.ensures [] in
    net-there c.args.places.now c.args.place c.args.net lists (subst (λ (l : List ℕ). Contains l c.args.place) is (c.if-ends_with.ensures refl))

pub returns : goal.returns
returns c =
    let lists : List (List ℕ) = c.args.readers.now.items in
    let places = c.args.places.now in
    let d : ℕ = (place_of places c.args.net).driver in
    let more : c.push.new.self ≡ get_or lists d [] ++ c.args.place ∷ [] = c.in_ok-push.ensures.ok ∙ ap (λ (l : List ℕ). l ++ c.args.place ∷ []) (get_or_read lists d c.index_mut.result.now c.requires.inside c.index_mut.ensures.value []) in
    subst (λ (l : List ℕ). AreAdded (λ n. n ≡ c.args.net) places c.args.place lists (set lists d l)) (sym more) (net-added places c.args.place c.args.net lists c.requires.inside)
