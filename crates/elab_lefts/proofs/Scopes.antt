-- The scopes of a design while its left sides are listed, and lists of items.
use Rattle.elab_lefts.proofs.Common.{◌≡◌, ℕ, suc, ◌+◌, ◌<◌, List, [], ◌++◌, map, Option, None, Some, get_or, take, set, length, sym, ap, ◌∙◌, arith, flat_map, Process, Names, names_of, empty}
use Rattle.elab_lefts.proofs.Common.{AreSized, Flat, Signal, Place, FlatItem, Left, Target, AreCopies, declared, names_at, bit_left, item_lefts, port_left, process_lefts}
use Rattle.std.proofs.lemmas.List.{append-nil}
use Rattle.vlog_meaning.specs.declared.scope.Decl.{Decl}
use Rattle.elab_proc.proofs.Lists.{flat_take}
use Rattle.flat_laws.specs.Sound.{IsSound}
use Rattle.elab_items.proofs.Running.{copies_kept, scope_is, sized_as}
use Rattle.elab_items.proofs.Sounding.{declared_stands}

-- the copy of a scope of a sound design has signals of 1 to 128 bits
pub copy_sized : (flat : Flat) (scopes : List (List (List ℕ × Decl))) (k : ℕ) (s : List (List ℕ × Decl)) → IsSound flat → AreCopies flat.places scopes → k < length scopes → s ≡ get_or scopes k s → AreSized (names_of s)
copy_sized flat scopes k s sound copies less is =
    sized_as flat.places (declared flat.signals empty) k (names_of s) (scope_is flat.places scopes k s copies less is) (declared_stands flat sound).0

-- a copy has the names of its scope
pub run_listed : (flat : Flat) (scopes : List (List (List ℕ × Decl))) (k : ℕ) (s : List (List ℕ × Decl)) (p : Process) (old new : List Left) → AreCopies flat.places scopes → k < length scopes → s ≡ get_or scopes k s
    → new ≡ old ++ process_lefts flat.signals (names_of s) p → new ≡ old ++ process_lefts flat.signals (names_at flat.places k) p
run_listed flat scopes k s p old new copies less is grown = grown ∙ ap (λ (n : Names). old ++ process_lefts flat.signals n p) (scope_is flat.places scopes k s copies less is)

-- it is given back with them
pub copies_stay : (flat : Flat) (scopes : List (List (List ℕ × Decl))) (k : ℕ) (s t : List (List ℕ × Decl)) → AreCopies flat.places scopes → k < length scopes → s ≡ get_or scopes k s → names_of t ≡ names_of s → AreCopies flat.places (set scopes k t)
copies_stay flat scopes k s t copies less is same =
    copies_kept flat.places scopes k t copies less (same ∙ scope_is flat.places scopes k s copies less is ∙ sym (copies k less))

-- one item more
pub items_more : (signals : List Signal) (places : List Place) (items : List FlatItem) (lefts new : List Left) (k : ℕ) (x : FlatItem) → x ≡ get_or items k x → k < length items → lefts ≡ flat_map (item_lefts signals places) (take k items) → new ≡ lefts ++ item_lefts signals places x → new ≡ flat_map (item_lefts signals places) (take (k + 1) items)
items_more signals places items lefts new k x at less h grown =
    let one : suc k ≡ k + 1 = omega arith in
    grown ∙ ap (λ (l : List Left). l ++ item_lefts signals places x) h ∙ sym (flat_take (item_lefts signals places) items k x at less) ∙ ap (λ (n : ℕ). flat_map (item_lefts signals places) (take n items)) one

-- bits of a left side
pub side_listed : (ts us : List Target) (old new : List Left) → us ≡ ts → new ≡ old ++ map bit_left us → new ≡ old ++ map bit_left ts
side_listed ts us old new told grown = grown ∙ ap (λ (l : List Target). old ++ map bit_left l) told

pub nothing_listed : (old : List Left) → old ≡ old ++ []
nothing_listed old = sym (append-nil old)

-- no port
pub no_port : (signals : List Signal) (k : ℕ) (o : Option Signal) (old : List Left) → o ≡ None → old ≡ old ++ port_left signals k o
no_port signals k None old is = sym (append-nil old)
no_port signals k (Some s) old is = cc
