-- The clauses that a search looks at: some of all clauses, and the lemmas.
use Rattle.std.specs.Prelude.{◌≡◌, ℕ, zero, suc, ◌<◌, ◌≤◌, ◌++◌, Bool, true, false, List, [], ◌∷◌, length, take, ℤ, Some, All, Contains, slice_index_or}
use Rattle.clause_store.specs.Propagation.{clause_at}
use Rattle.lrat_checker.specs.LegalLogs.{Log}
use Rattle.sat_solver.specs.declared.focus.Focus.{Focus}
use Rattle.sat_solver.specs.declared.part.Part.{Part}
use Rattle.sat_solver.specs.declared.probe.Probe.{Probe}
use Rattle.sat_solver.specs.Trails.{IsReady}
use Rattle.sat_solver.specs.Propagators.{IsKept}

-- For proofs alone.

-- the clauses that aren't left out; those past the end of the flags never are
abbrev pub picked : List Bool → List (List ℤ) → List (List ℤ)
picked [] clauses = clauses
picked (flag ∷ flags) [] = []
picked (true ∷ flags) (clause ∷ more) = picked flags more
picked (false ∷ flags) (clause ∷ more) = clause ∷ picked flags more

-- each has the number of the same clause among all
pub record AreNumbers (clauses part : List (List ℤ)) (numbers : List ℕ) : Type 0 where
  pub paired : length numbers ≡ length part
  pub each : (k : ℕ) → k < length part → clause_at clauses (slice_index_or numbers k 0) ≡ Some (slice_index_or part k [])

-- the number, among all clauses, of the clause with this number
abbrev pub number_of : List ℕ → ℕ → ℕ
number_of numbers zero = zero
number_of numbers (suc k) = slice_index_or numbers k 0

-- those of the first clauses that aren't left out, with their numbers
pub record IsPart (left_out : List Bool) (clauses : List (List ℤ)) (p : Part) : Type 0 where
  pub few : p.seen ≤ length clauses
  pub store : p.store ≡ picked left_out (take p.seen clauses)
  pub numbers : AreNumbers clauses p.store p.numbers.items

-- Free bits that are decided, and clauses that are left out, of so many. Nothing is left out where the whole is looked at.
pub record IsFocus (count free : ℕ) (focus : Focus) : Type 0 where
  pub few : length focus.left_out.items ≤ count
  pub range : All (λ v. (0 < v) × (v ≤ free)) focus.bits.items
  pub none_left_out : focus.whole ≡ true → focus.left_out.items ≡ []
  pub all_bits : focus.whole ≡ true → (v : ℕ) → 0 < v → v ≤ free → Contains focus.bits.items v

-- the clauses that a search looks at, and the lemmas
abbrev pub in_use : Log → Probe → List (List ℤ)
in_use log p = picked p.focus.left_out.items log.clauses ++ log.lemmas

-- what holds of a trail over them
pub record IsProbing (log : Log) (p : Probe) : Type 0 where
  pub focus : IsFocus (length log.clauses) log.free p.focus
  pub part : IsPart p.focus.left_out.items (log.clauses ++ log.lemmas) p.part
  pub ready : IsReady (in_use log p) log.free p.propagator.trail
  pub kept : IsKept (in_use log p) p.propagator
