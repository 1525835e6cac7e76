-- What a search holds.
use Rattle.std.specs.Prelude.{◌≡◌, ◌+◌, ◌*◌, ◌≤◌, length, sum_by}
use Rattle.clause_encoder.specs.Miters.{IsMiter}
use Rattle.sat_solver.specs.declared.search.Search.TheInside.{Inside}
use Rattle.sat_solver.specs.Found.{Hunt}
use Rattle.sat_solver.specs.Parts.{IsProbing}

abbrev pub hunt_of : Inside → Hunt
hunt_of s = record { log = s.checker; limit = s.limit }

-- For proofs alone.

-- what holds between the calls
pub record IsSearching (s : Inside) : Type 0 where
  pub miter : IsMiter s.checker.clauses s.checker.variables s.checker.free
  pub free : s.free ≡ s.checker.free
  pub limit : s.limit ≤ 100000
  pub lemmas : length s.checker.lemmas ≤ s.limit
  pub literals : sum_by length s.checker.lemmas ≤ 2048 * length s.checker.lemmas
  pub variables : s.variables ≡ s.checker.variables
  pub len : length s.probe.propagator.trail.values.items ≡ s.checker.variables + 1
  pub probing : IsProbing s.checker s.probe
