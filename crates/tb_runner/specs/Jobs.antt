-- What a job of a simulation is.
use Rattle.std.specs.Prelude.{◌≡◌, ℕ, Bool, false, List}
use Rattle.vlog_syntax.specs.declared.stmt.Stmt.{Stmt}
use Rattle.tb_machine.specs.Nodes.{IsCode}
use Rattle.tb_watch.specs.Searches.{Watched, HasWatched}
use Rattle.tb_process.specs.Running.{Running, CanGoOn}
use Rattle.tb_turns.specs.Reached.{IsAt, IsOpen}
use Rattle.tb_runner.specs.Simulated.{Simulated, setting, start, StandsIn}

-- What is simulated, the limit of cycles, the texts that decide, how many phases went on so far, whether a verdict was given, and
-- whether a turn was refused for want of memory.
pub record Job : Type 0 where
  pub simulated : Simulated
  pub limit : ℕ
  pub pass : List ℕ
  pub fail : List ℕ
  pub phases : ℕ
  pub is_over : Bool
  pub is_refused : Bool

-- what the job of a simulation is at its start
abbrev pub new_job : Simulated → ℕ → (pass fail : List ℕ) → Job
new_job simulated limit pass fail = record { simulated = simulated; limit = limit; pass = pass; fail = fail; phases = 0; is_over = false; is_refused = false }

-- only the count of phases and what was told may differ
pub record IsSameJob (old new : Job) : Type 0 where
  pub simulated : new.simulated ≡ old.simulated
  pub limit : new.limit ≡ old.limit
  pub pass : new.pass ≡ old.pass
  pub fail : new.fail ≡ old.fail

-- For proofs alone.

-- what holds of a job that goes on
pub record IsJob (x : Simulated) (limit : ℕ) (run : Running) (phases : ℕ) (watch : Watched) : Type 0 where
  pub open_still : IsOpen (CanGoOn x.bench run) run.phase phases limit
  pub at : (trees : List Stmt) → IsCode x.bench.code trees → IsAt (setting x trees) (StandsIn x.bench run (setting x trees)) (HasWatched watch) (start x trees) phases
