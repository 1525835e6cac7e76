-- What an item leaves in the builder: how many cells it adds, and what stands.
use Rattle.cell_scopes.proofs.Common.{◌≡◌, ℕ, zero, suc, ◌+◌, ◌-◌, ◌≤◌, Bool, List, [], ◌∷◌, ◌++◌, take, replicate, length, refl, sym, ap, ◌∙◌, subst, arith, map, append_assoc, append-nil, map-append}
use Rattle.cell_scopes.proofs.Common.{Module, Building, empty, Widths, widths_in, FlatItem, Flat, widths_of, Builds, Stands, cell_count, declared, no_cells, widths_are, widths_stay, is_within_some}
use Rattle.cell_scopes.proofs.Common.{cell_scopes, item_scopes, prefix_at, scope_of, scopes_from}
use Rattle.flat_instances.specs.Places.{Place}
use Rattle.flat_items.specs.Replacing.{FlattensTop}
use Rattle.flat_laws.specs.Sound.{IsSound}
use Rattle.flat_laws.proofs.Flattened.{flattened_sound}
use Rattle.elab_items.proofs.Sounding.{declared_stands}

pub item_widths : (inputs : List Bool) (places : List Place) (item : FlatItem) (old new : Building) → Builds inputs places item old new → widths_in new ≡ widths_in old
item_widths inputs places item old new h = widths_stay h.meaning old new h.adds

-- a list that is filled up to so many elements more
take_over : {X : Type 0} (xs : List X) (n : ℕ) → length xs ≤ n → take n xs ≡ xs
take_over [] zero few = refl
take_over [] (suc n) few = refl
take_over (x ∷ xs) zero few = absurd (omega (arith, few))
take_over (x ∷ xs) (suc n) few = ap (λ rest. x ∷ rest) (take_over xs n (omega (arith, few)))

pub filled_up : {X : Type 0} (xs new : List X) (more n : ℕ) (x : X) → n ≡ length xs + more → new ≡ take n xs ++ replicate (n - length xs) x → new ≡ xs ++ replicate more x
filled_up {X = X} xs new more n x is filled =
    let left : n - length xs ≡ more = omega (arith, is) in
    filled ∙ ap (λ (l : List X). l ++ replicate (n - length xs) x) (take_over xs n (omega (arith, is))) ∙ ap (λ (k : ℕ). xs ++ replicate k x) left

pub flat_sound : (modules : List Module) (top : List ℕ) (flat : Flat) → FlattensTop modules top flat → IsSound flat
flat_sound = flattened_sound

-- The flags of the scopes of cells.

map_replicate : {X Y : Type 0} (f : X → Y) (n : ℕ) (x : X) → map f (replicate n x) ≡ replicate n (f x)
map_replicate f zero x = refl
map_replicate f (suc n) x = ap (λ rest. f x ∷ rest) (map_replicate f n x)

abbrev pub item_flags : List (List ℕ) → Flat → FlatItem → Widths → List Bool
item_flags instances flat item width = replicate (cell_count width flat.places item) (is_within_some instances (prefix_at flat.places (scope_of item)))

pub flags_next : (instances : List (List ℕ)) (flat : Flat) (width : Widths) (items : List FlatItem) (item : FlatItem) (more : List FlatItem) (flags new all : List Bool)
    → width ≡ widths_of flat.signals → items ≡ item ∷ more → new ≡ flags ++ item_flags instances flat item width
    → flags ++ map (is_within_some instances) (scopes_from flat items) ≡ all → new ++ map (is_within_some instances) (scopes_from flat more) ≡ all
flags_next instances flat width items item more flags new all is split added h =
    let f = is_within_some instances in
    let count = map_replicate f (cell_count (widths_of flat.signals) flat.places item) (prefix_at flat.places (scope_of item)) in
    let step : map f (scopes_from flat items) ≡ item_flags instances flat item width ++ map f (scopes_from flat more) =
    ap (λ (l : List FlatItem). map f (scopes_from flat l)) split
    ∙ map-append f (item_scopes flat item) (scopes_from flat more)
    ∙ ap (λ (l : List Bool). l ++ map f (scopes_from flat more)) (count ∙ ap (item_flags instances flat item) (sym is)) in
    ap (λ (l : List Bool). l ++ map f (scopes_from flat more)) added ∙ append_assoc flags (item_flags instances flat item width) (map f (scopes_from flat more))
    ∙ ap (λ (l : List Bool). flags ++ l) (sym step) ∙ h

pub flags_first : (f : List ℕ → Bool) (flat : Flat) (items : List FlatItem) (flags : List Bool) → flags ≡ [] → items ≡ flat.items → flags ++ map f (scopes_from flat items) ≡ map f (cell_scopes flat)
unfolding cell_scopes
flags_first f flat items flags none is = ap (λ (l : List Bool). l ++ map f (scopes_from flat items)) none ∙ ap (λ (l : List FlatItem). map f (scopes_from flat l)) is

pub flags_last : (f : List ℕ → Bool) (flat : Flat) (items : List FlatItem) (flags all : List Bool) → length items ≤ 0 → flags ++ map f (scopes_from flat items) ≡ all → flags ≡ all
flags_last f flat [] flags all none h = sym (append-nil flags) ∙ h
flags_last f flat (item ∷ more) flags all none h = absurd (omega (arith, none))

-- A builder in which the signals of a design are declared.

pub declared_ready : (flat : Flat) (b : Building) → IsSound flat → b ≡ declared flat.signals empty → Stands flat.places b
declared_ready flat b sound is = subst (Stands flat.places) (sym is) (declared_stands flat sound).0

pub declared_widths : (flat : Flat) (b : Building) → b ≡ declared flat.signals empty → widths_in b ≡ widths_of flat.signals
declared_widths flat b is = ap widths_in is ∙ (λ i k. widths_are flat.signals k i)

pub declared_cells : (flat : Flat) (b : Building) → b ≡ declared flat.signals empty → b.cells ≡ []
declared_cells flat b is = ap (λ (x : Building). x.cells) is ∙ no_cells flat.signals empty
