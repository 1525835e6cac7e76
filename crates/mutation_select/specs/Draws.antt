-- What sites draw: words of the generator XSL RR 128/64 of PCG (O'Neill, "PCG: a family of simple fast space-efficient
-- statistically good algorithms for random number generation"), begun from a seed of 64 bits, one for each site.
use Rattle.std.specs.Prelude.{ℕ, ◌+◌, List, [], ◌∷◌}
use Rattle.rand_core.specs.Pcg32Seed.{pcg32_seed}
use Rattle.rand_pcg.specs.Lcg.{Lcg}
use Rattle.rand_pcg.specs.Pcg.{pcg64, pcg64_of_seed}
use Rattle.netlist_core.specs.declared.raw.RawNetlist.{RawNetlist}
use Rattle.mutation_sites.specs.declared.site.Site.{Site}
use Rattle.mutation_sites.specs.Wiring.{span_at}
use Rattle.mutation_select.specs.declared.words.Drawn.{Drawn}

-- the generator of a seed
unfoldable pub generator : ℕ → Lcg
generator seed = pcg64_of_seed (pcg32_seed 32 seed)

-- what these sites draw, from a state of the generator and a number on: a word for each, in their order
abbrev pub drawn : RawNetlist → Lcg → ℕ → List Site → List Drawn
drawn netlist g number [] = []
drawn netlist g number (site ∷ more) =
    record { file = (span_at netlist site.place).file; line = (span_at netlist site.place).line; word = (pcg64 g).0; number = number }
    ∷ drawn netlist (pcg64 g).1 (number + 1) more
