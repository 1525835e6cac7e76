-- A log that grows by learning.
use Rattle.std.specs.Prelude.{◌≡◌, ◌+◌, ◌-◌, ◌<◌, ◌≤◌, ◌^◌, ◌++◌, ◌∷◌, [], List, ℤ, length, sum_by}
use Rattle.lrat_checker.specs.LegalLogs.{Log}

-- For proofs alone.

-- there is room for one more lemma of at most 2,048 literals
pub record IsRoomy (log : Log) : Type 0 where
  pub number : length (log.clauses ++ log.lemmas) < 2 ^ 31 - 1
  pub room : sum_by length (log.clauses ++ log.lemmas) + 2048 < 2 ^ 31
  pub few_free : log.free ≤ 2048
  pub few_variables : log.variables < 2 ^ 25

-- one lemma was added
pub record HasLearned (old new : Log) : Type 0 where
  pub lemma : List ℤ
  pub few : length lemma ≤ 2048
  pub added : new ≡ record old { lemmas = old.lemmas ++ lemma ∷ [] }
