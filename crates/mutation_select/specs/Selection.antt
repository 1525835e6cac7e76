-- The selection: which sites are the first so many, by word and number, or by rank, word and number.
use Rattle.std.specs.Prelude.{ℕ, List, map, Bool, false, not, ◌&&◌, eqb, ltb, filter, slice_index_or}
use Rattle.std.specs.List.{count_by}
use Rattle.std.specs.declared.cmp.Ordering.{Ordering}
use Rattle.std.specs.Ordering.{nat_cmp, on, then_cmp, is_lt}
use Rattle.mutation_select.specs.declared.pick.Pick.{Pick}
use Rattle.mutation_select.specs.declared.pick.Pick.TheVariants.{Plain, Even}
use Rattle.mutation_select.specs.declared.draw.Draw.{Draw}
use Rattle.mutation_select.specs.declared.words.Drawn.{Drawn}

abbrev pub draw_number : Draw → ℕ
draw_number d = d.number

-- a site counts where the flag of its number is not set, or where there is none
abbrev pub is_kept : List Bool → Drawn → Bool
is_kept omitted d = not (slice_index_or omitted d.number false)

-- the sites that count, with what they draw among all
abbrev pub kept : List Bool → List Drawn → List Drawn
kept omitted sites = filter (is_kept omitted) sites

-- by word, then by number
abbrev pub drawn_cmp : Drawn → Drawn → Ordering
drawn_cmp = then_cmp (on (λ (x : Drawn). x.word) nat_cmp) (on (λ (x : Drawn). x.number) nat_cmp)

-- whether e stands on the line of d
abbrev pub shares_line : Drawn → Drawn → Bool
shares_line d e = eqb d.file e.file && eqb d.line e.line

-- how many sites of its line are less
abbrev pub rank : List Drawn → Drawn → ℕ
rank sites d = count_by (λ e. shares_line d e && is_lt (drawn_cmp e d)) sites

abbrev pub with_rank : ℕ → Drawn → Draw
with_rank n d = record { rank = n; word = d.word; number = d.number }

-- the draws of a plain pick, and of an even one
abbrev pub unranked : List Drawn → List Draw
unranked sites = map (with_rank 0) sites

abbrev pub ranked : List Drawn → List Draw
ranked sites = map (λ d. with_rank (rank sites d) d) sites

abbrev pub draws : Pick → List Drawn → List Draw
draws Plain = unranked
draws Even = ranked

-- by rank, then by word, then by number
abbrev pub draw_cmp : Draw → Draw → Ordering
draw_cmp = then_cmp (on (λ (x : Draw). x.rank) nat_cmp) (then_cmp (on (λ (x : Draw). x.word) nat_cmp) (on (λ (x : Draw). x.number) nat_cmp))

-- whether fewer than so many draws are less than this one
abbrev pub is_taken : ℕ → List Draw → Draw → Bool
is_taken size all d = ltb (count_by (λ e. is_lt (draw_cmp e d)) all) size

-- the numbers of the first so many draws, in the order of the list
abbrev pub taken : ℕ → List Draw → List ℕ
taken size all = map draw_number (filter (is_taken size all) all)

-- the numbers of the selected sites, in their order
abbrev pub selected : Pick → ℕ → List Drawn → List ℕ
selected pick size sites = taken size (draws pick sites)

-- For proofs alone.

abbrev pub number_of : Drawn → ℕ
number_of d = d.number
