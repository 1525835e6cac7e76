use Rattle.campaign_choice.proofs.Common.{◌≡◌, Bor, List, [], ◌∷◌, ℕ, zero, suc, Some, None, length, slice_get, map, refl, sym, ap, slice_get_past, slice_get_read, file_at}
use Rattle.std.proofs.lemmas.Bool.{ltb-true}
use Rattle.campaign_choice.proofs.omitted.file_at.Goals as goal

abbrev texts : List (Bor (List ℕ)) → List (List ℕ)
texts files = map (λ (name : Bor (List ℕ)). name.now) files

named : (files : List (Bor (List ℕ))) (i : ℕ) (name : Bor (List ℕ)) → slice_get files i ≡ Some name → name.now ≡ file_at (texts files) i
named [] i name is = cc
named (x ∷ more) zero name is = (let same : x ≡ name = cc in ap (λ (n : Bor (List ℕ)). n.now) (sym same))
named (x ∷ more) (suc i) name is = named more i name is

nameless : (files : List (Bor (List ℕ))) (i : ℕ) → slice_get files i ≡ None → [] ≡ file_at (texts files) i
nameless [] i is = refl
nameless (x ∷ more) zero is = cc
nameless (x ∷ more) (suc i) is = nameless more i is

pub returns-in-Some : goal.returns-in-Some
returns-in-Some c =
    let lookup = c.in-Some.ensures.lookup in
    let inside = ltb-true c.args.number (length c.args.files.now) (sym lookup.0) in
    named c.args.files.now c.args.number c.in-Some.name.now (slice_get_read c.args.files.now (length c.args.files.now) c.args.number c.in-Some.name.now refl inside lookup.1)

pub returns-in-None : goal.returns-in-None
returns-in-None c = nameless c.args.files.now c.args.number (slice_get_past c.args.files.now c.args.number c.in-None.ensures.lookup.3)
