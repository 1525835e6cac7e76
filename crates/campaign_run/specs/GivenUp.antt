-- When an equivalence test may be given up: the clauses of the pair have an attempt for the limit of the test.
use Rattle.std.specs.Prelude.{◌≡◌, ℕ, List, ℤ}
use Rattle.netlist_core.specs.declared.raw.RawNetlist.{RawNetlist}
use Rattle.netlist_core.specs.Checked.{Plan, IsSound, free_bits}
use Rattle.lrat_checker.specs.LegalLogs.{IsAttempt}
use Rattle.mutation_sites.specs.declared.site.Site.{Site}
use Rattle.mutation_sites.specs.Mutants.{HasEachRun, HasOneMore, HasSameNames, HasSameShapes, RunsAlike}
use Rattle.pair_gates.specs.Copies.{pair_clauses}

-- The other netlist is the mutant of this one at a site: it has its runs, and the same cells, ports and registers but for the cell
-- that drives the mutated bit.
pub record IsMutantAt (netlist mutated : RawNetlist) (site : Site) : Type 0 where
  pub runs : RunsAlike netlist mutated site
  pub each_run : HasEachRun netlist mutated site
  pub one_more : HasOneMore netlist mutated
  pub names : HasSameNames netlist mutated
  pub shapes : HasSameShapes netlist mutated site.mode

-- The clauses of the netlist and its mutant have an attempt: a legal log of as many lemmas as the limit, none of them empty.
pub record HasAttempt (netlist : RawNetlist) (site : Site) (limit : ℕ) : Type 0 where
  pub original : Plan
  pub mutated : Plan
  pub is : original.raw ≡ netlist
  pub sound : IsSound original
  pub mutated_sound : IsSound mutated
  pub broken : IsMutantAt netlist mutated.raw site
  pub lemmas : List (List ℤ)
  pub attempt : IsAttempt (pair_clauses original mutated) (free_bits netlist) limit lemmas
