-- Laws of selections.
use Rattle.std.specs.Prelude.{ℕ, ◌≤◌, Bool, List, length}
use Rattle.rand_pcg.specs.Lcg.{Lcg}
use Rattle.netlist_core.specs.declared.raw.RawNetlist.{RawNetlist}
use Rattle.mutation_sites.specs.declared.site.Site.{Site}
use Rattle.mutation_select.specs.declared.pick.Pick.{Pick}
use Rattle.mutation_select.specs.Draws.{drawn}
use Rattle.mutation_select.specs.Selection.{kept, selected}

-- No more sites are selected than are asked for.
abbrev pub SelectionsAreFew : Type 0
SelectionsAreFew = (pick : Pick) (size : ℕ) (netlist : RawNetlist) (g : Lcg) (sites : List Site) (omitted : List Bool) → length (selected pick size (kept omitted (drawn netlist g 0 sites))) ≤ size
