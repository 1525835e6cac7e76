-- What a checker holds.
use Rattle.std.specs.Prelude.{◌≡◌, ◌+◌, ◌≤◌, None, length, take, drop, replicate}
use Rattle.clause_store.specs.Clauses.{AreOver}
use Rattle.lrat_checker.specs.declared.checker.Checker.TheInside.{Inside}
use Rattle.lrat_checker.specs.LegalLogs.{Log, IsLegalLog}
use Rattle.lrat_checker.specs.Guards.{AreGuarded}

-- the log of a checker
abbrev pub log_of : Inside → Log
log_of c = record { clauses = take c.clauses c.store; variables = c.variables; free = c.free; lemmas = drop c.clauses c.store }

-- For proofs alone.

-- what holds between the calls
pub record IsSound (c : Inside) : Type 0 where
  pub split : c.clauses ≤ length c.store
  pub open_ : c.trail ≡ replicate (c.variables + 1) None
  pub over : AreOver c.variables c.store
  pub free : c.free ≤ c.variables
  pub legal : IsLegalLog (take c.clauses c.store) c.free (drop c.clauses c.store)
  pub guarded : AreGuarded (drop c.clauses c.store) c.guards
