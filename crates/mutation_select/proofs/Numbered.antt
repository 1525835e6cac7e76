-- The numbers of what sites draw are their places, in order.
use Rattle.mutation_select.proofs.Common.{◌≡◌, ℕ, suc, ◌+◌, ◌≤◌, Bool, cond, true, false, List, [], ◌∷◌, length, map, refl, ap, arith, Drawn, Pick, Plain, Even, drawn, draw_number, draws, is_kept}
use Rattle.mutation_select.proofs.Common.{kept, number_of, rank, with_rank, Ascends}
use Rattle.std.proofs.Common.{filter}
use Rattle.rand_pcg.specs.Lcg.{Lcg}
use Rattle.rand_pcg.specs.Pcg.{pcg64}
use Rattle.netlist_core.specs.declared.raw.RawNetlist.{RawNetlist}
use Rattle.mutation_sites.specs.declared.site.Site.{Site}
use Rattle.mutation_select.proofs.Ascending.{Ascends-filter}

pub drawn-ascends : (netlist : RawNetlist) (g : Lcg) (i : ℕ) (sites : List Site) → Ascends i (map number_of (drawn netlist g i sites))
drawn-ascends netlist g i [] = tt
drawn-ascends netlist g i (site ∷ more) = (omega arith, drawn-ascends netlist (pcg64 g).1 (i + 1) more)

pub length-drawn : (netlist : RawNetlist) (g : Lcg) (i : ℕ) (sites : List Site) → length (drawn netlist g i sites) ≡ length sites
length-drawn netlist g i [] = refl
length-drawn netlist g i (site ∷ more) = omega (arith, length-drawn netlist (pcg64 g).1 (i + 1) more)

-- of those that are kept too
pub kept-ascends : (omitted : List Bool) (words : List Drawn) → Ascends 0 (map number_of words) → Ascends 0 (map number_of (kept omitted words))
kept-ascends omitted words ascends = Ascends-filter (is_kept omitted) number_of 0 words ascends

filtered-length : {X : Type 0} (p : X → Bool) (xs : List X) → length (filter p xs) ≤ length xs
filtered-length p [] = omega arith
filtered-length p (x ∷ xs) = by (p x) (filtered-length p xs)
  where
    by : (b : Bool) → length (filter p xs) ≤ length xs → length (cond b (x ∷ filter p xs) (filter p xs)) ≤ suc (length xs)
    by true few = omega (arith, few)
    by false few = omega (arith, few)

pub length-kept : (omitted : List Bool) (words : List Drawn) → length (kept omitted words) ≤ length words
length-kept omitted words = filtered-length (is_kept omitted) words

ranked-numbers : (f : Drawn → ℕ) (sites : List Drawn) → map draw_number (map (λ d. with_rank (f d) d) sites) ≡ map number_of sites
ranked-numbers f [] = refl
ranked-numbers f (d ∷ more) = ap (λ rest. number_of d ∷ rest) (ranked-numbers f more)

pub numbers-of-draws : (pick : Pick) (sites : List Drawn) → map draw_number (draws pick sites) ≡ map number_of sites
numbers-of-draws Plain sites = ranked-numbers (λ d. 0) sites
numbers-of-draws Even sites = ranked-numbers (rank sites) sites

ranked-length : (f : Drawn → ℕ) (sites : List Drawn) → length (map (λ d. with_rank (f d) d) sites) ≡ length sites
ranked-length f [] = refl
ranked-length f (d ∷ more) = omega (arith, ranked-length f more)

pub length-draws : (pick : Pick) (sites : List Drawn) → length (draws pick sites) ≡ length sites
length-draws Plain sites = ranked-length (λ d. 0) sites
length-draws Even sites = ranked-length (rank sites) sites
