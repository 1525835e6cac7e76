-- A look-up in the set of names beside a list, where a name more is added to both.
use Rattle.flat_scopes.proofs.Common.{◌≡◌, ℕ, Bool, true, false, ◌||◌, List, [], ◌∷◌, ◌++◌, refl, sym, ap, ◌∙◌, cond, bytes_eq, String, Global, btree_set_updates_text, Identifier, AreKnown, is_among}
use Rattle.std.specs.BTreeSet.{BTreeSet, UpdatesBy, contains_text}
use Rattle.std.specs.String.{string_bytes, string_cmp}

or_swap : (a b c : Bool) → (a || (b || c)) ≡ (b || (a || c))
or_swap true true c = refl
or_swap true false c = refl
or_swap false b c = refl

either : (b c : Bool) → cond b true c ≡ (b || c)
either true c = refl
either false c = refl

among_more : (names : List Identifier) (x : Identifier) (name : List ℕ) → is_among (names ++ x ∷ []) name ≡ (bytes_eq x.name name || is_among names name)
among_more [] x name = refl
among_more (y ∷ more) x name = ap (λ (b : Bool). bytes_eq y.name name || b) (among_more more x name) ∙ or_swap (bytes_eq y.name name) (bytes_eq x.name name) (is_among more name)

pub known_more : (key : String Global) (x : Identifier) (names after : List Identifier) (s n : BTreeSet (String Global)) → string_bytes key ≡ x.name → AreKnown names s → UpdatesBy string_cmp (string_cmp key) s n true → after ≡ names ++ x ∷ [] → AreKnown after n
known_more key x names after s n is known u longer name =
    btree_set_updates_text (string_bytes key) s n true u name
    ∙ either (bytes_eq (string_bytes key) name) (contains_text s name)
    ∙ ap (λ (b : Bool). bytes_eq (string_bytes key) name || b) (known name)
    ∙ ap (λ (k : List ℕ). bytes_eq k name || is_among names name) is
    ∙ sym (among_more names x name)
    ∙ ap (λ (l : List Identifier). is_among l name) (sym longer)
