-- A bench that fits a design fits its mutants.
use Rattle.project_tester.proofs.Common.{ℕ, List, length, map, slice_get, None, Some, sym, ap, ◌∙◌, RawNetlist, Site, Parts, FitsDesign, Prepared, IsMutantAt, IsBroken, IsBrokenAt}
use Rattle.netlist_core.specs.declared.port.Port as port
use Rattle.netlist_core.specs.Runs.{bits_at}

-- a mutant's ports are as wide as the design's
fits_mutant : (bench : Parts) (netlist mutated : RawNetlist) (site : Site) → FitsDesign bench netlist → IsMutantAt netlist mutated site → FitsDesign bench mutated
fits_mutant bench netlist mutated site fits broken = record {
  inputs = fits.inputs ∙ sym (ap (λ (ports : List port.Port). map length (bits_at ports)) broken.one_more.inputs);
  outputs = fits.outputs ∙ sym broken.names.widths;
}

pub fits_at : (c : Prepared) (m : ℕ) (bench : Parts) (mutated : RawNetlist) → FitsDesign bench c.netlist → IsBrokenAt c m mutated → FitsDesign bench mutated
fits_at c m bench mutated fits broken =
    elim (slice_get c.sites m) as (λ o. IsBroken c.netlist o mutated → FitsDesign bench mutated) [
      | None ↦ λ b. absurd b
      | Some site ↦ λ b. fits_mutant bench c.netlist mutated site fits b
    ] broken
