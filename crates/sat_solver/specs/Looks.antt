-- What a look at a clause leaves that may be watched at a literal.
use Rattle.std.specs.Prelude.{◌≡◌, ◌≢◌, ℕ, ◌+◌, ◌<◌, List, length, take, ℤ, neg_ℤ, Some}
use Rattle.clause_store.specs.Propagation.{Known}
use Rattle.lrat_checker.specs.Tables.{known_of}
use Rattle.sat_solver.specs.declared.propagator.Propagator.{Propagator}
use Rattle.sat_solver.specs.declared.watches.Pair.{Pair}
use Rattle.sat_solver.specs.declared.visits.Look.{Look}
use Rattle.sat_solver.specs.declared.visits.Look.TheVariants.{False, Stays, Leaves}
use Rattle.sat_solver.specs.Trails.{assigned, literal_at, IsGrown, IsConflict}
use Rattle.sat_solver.specs.Occurrences.{list_of}
use Rattle.sat_solver.specs.Watches.{pair_of, IsGuard, KeepsCounted}

-- For proofs alone.

-- the negation of the next literal to propagate
pub record IsNext (l : ℤ) (p : Propagator) : Type 0 where
  pub within : p.head < length p.trail.literals.items
  pub is : l ≡ neg_ℤ (literal_at p.trail.literals.items p.head)

-- the literals up to the next one to propagate are true
abbrev pub propagated : Propagator → Known
propagated p = assigned (take (p.head + 1) p.trail.literals.items)

-- the list of the literal and the pairs of other clauses are as they were, and the trail has grown
pub record HasMoved (clauses : List (List ℤ)) (l : ℤ) (number : ℕ) (old new : Propagator) : Type 0 where
  pub grown : IsGrown clauses old.trail new.trail
  pub taken : new.taken ≡ old.taken
  pub head : new.head ≡ old.head
  pub len : length new.watches.lists ≡ length old.watches.lists
  pub list : list_of new.watches.lists l ≡ list_of old.watches.lists l
  pub others : (n : ℕ) → n ≢ number → pair_of new.watches n ≡ pair_of old.watches n
  pub counted : KeepsCounted old.watches new.watches

-- the clause's pair, where it has one, is a guard once the next literal is propagated
abbrev pub HasGuard : ℕ → Propagator → Propagator → Type 0
HasGuard number old new = (pair : Pair) → pair_of new.watches number ≡ Some pair → IsGuard (propagated old) (known_of new.trail.values.items) pair

-- what the clause is, or at which literals it is watched now
abbrev pub IsLook : List (List ℤ) → ℤ → ℕ → Propagator → Propagator → Look → Type 0
IsLook clauses l number old new False = IsConflict clauses (known_of new.trail.values.items) number
IsLook clauses l number old new Stays = HasGuard number old new
IsLook clauses l number old new Leaves = HasGuard number old new × ((pair : Pair) → pair_of new.watches number ≡ Some pair → (pair.first ≢ l) × (pair.second ≢ l))
