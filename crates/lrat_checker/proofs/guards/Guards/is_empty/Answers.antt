use Rattle.lrat_checker.proofs.Common.{◌≡◌, ◌<◌, ◌∙◌, ℕ, length, vec_len, sym, ap, arith, rules, FitsSigned, w32, Decides-eqb, to_z-of_z, nil_from_length, place_of, list_at, lists_of}
use Rattle.lrat_checker.proofs.Guarding.{list-at}
use Rattle.lrat_checker.proofs.guards.Guards.is_empty.Goals as goal

pub returns : goal.returns
returns c = λ h.
    let fits : FitsSigned w32 c.args.l = search rules in
    let place : c.place_of-place.result ≡ place_of c.args.l = rw (to_z-of_z w32 c.args.l fits) at c.place_of-place.ensures in
    let within : c.place_of-place.result < length c.args.self.now.lists.items = omega arith in
    let here : c.index.result.now.items ≡ list_at (lists_of c.args.self.now) c.place_of-place.result = list-at (λ v. v.items) c.args.self.now.lists.items c.place_of-place.result c.index.result.now within c.index.ensures in
    let count : vec_len c.index.result.now ≡ 0 = (Decides-eqb (vec_len c.index.result.now) 0).0 (sym c.is_empty.ensures ∙ h) in
    let none : length c.index.result.now.items ≡ 0 = sym c.index.result.now.ok.0 ∙ count in
    ap (λ (p : ℕ). list_at (lists_of c.args.self.now) p) (sym place) ∙ sym here ∙ nil_from_length c.index.result.now.items none
