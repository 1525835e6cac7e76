-- The sites of mutations are sites of the netlist, and no more than the project asks for.
use Rattle.campaign_choice.proofs.Common.{◌≡◌, Bool, ℕ, zero, suc, ◌≤◌, List, [], ◌∷◌, length, slice_get, Option, None, Some, refl, subst, arith, All, filter_map, cons_option, All-nil, All-cons}
use Rattle.campaign_choice.proofs.Common.{All-head, All-tail, RawNetlist, Project, Site, all_sites, pick_of, picked_sites}
use Rattle.mutation_select.specs.Draws.{drawn, generator}
use Rattle.mutation_select.specs.Selection.{kept, selected}
use Rattle.mutation_select.proofs.Within.{within_size}

-- Lists.

at-found : {X : Type 0} (P : X → Type 0) (xs : List X) (n : ℕ) (x : X) → slice_get xs n ≡ Some x → All P xs → P x
at-found P [] n x is each = cc
at-found P (y ∷ ys) zero x is each = (let here : y ≡ x = cc in subst P here (All-head P y ys each))
at-found P (y ∷ ys) (suc n) x is each = at-found P ys n x is (All-tail P y ys each)

All-found : {X : Type 0} (P : X → Type 0) (all : List X) (numbers : List ℕ) → All P all → All P (filter_map (slice_get all) numbers)
All-found P all [] each = All-nil P
All-found P all (n ∷ more) each =
    elim (slice_get all n) as (λ o. slice_get all n ≡ o → All P (cons_option o (filter_map (slice_get all) more))) [
      | None ↦ λ is. All-found P all more each
      | Some x ↦ λ is. All-cons P x (filter_map (slice_get all) more) (at-found P all n x is each) (All-found P all more each)
    ] refl

length-found : {X Y : Type 0} (h : X → Option Y) (xs : List X) → length (filter_map h xs) ≤ length xs
length-found h [] = omega arith
length-found h (x ∷ xs) =
    let rest : length (filter_map h xs) ≤ length xs = length-found h xs in
    elim (h x) as (λ o. length (cons_option o (filter_map h xs)) ≤ suc (length xs)) [ None ↦ omega (arith, rest) | Some y ↦ omega (arith, rest) ]

-- Sites.

-- no more sites are picked than the project asks for
pub within-size : (project : Project) (omitted : List Bool) (netlist : RawNetlist) → length (picked_sites project omitted netlist) ≤ project.size
unfolding picked_sites
within-size project omitted netlist =
    let all : List Site = all_sites project netlist in
    let numbers : List ℕ = selected (pick_of project.even) project.size (kept omitted (drawn netlist (generator project.word_seed) 0 all)) in
    let found : length (filter_map (slice_get all) numbers) ≤ length numbers = length-found (slice_get all) numbers in
    omega (arith, found, within_size (pick_of project.even) project.size netlist (generator project.word_seed) all omitted)

-- what holds at all sites holds at those that are picked
pub All-picked : (P : Site → Type 0) (project : Project) (omitted : List Bool) (netlist : RawNetlist) → All P (all_sites project netlist) → All P (picked_sites project omitted netlist)
unfolding picked_sites
All-picked P project omitted netlist each =
    All-found P (all_sites project netlist) (selected (pick_of project.even) project.size (kept omitted (drawn netlist (generator project.word_seed) 0 (all_sites project netlist)))) each
