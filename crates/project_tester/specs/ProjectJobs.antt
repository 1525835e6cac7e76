-- The jobs of a prepared campaign's tests.
use Rattle.std.specs.Prelude.{◌≡◌, ◌≢◌, ℕ, ◌+◌, ◌-◌, ◌/◌, ◌≤◌, List, length, slice_get, max, Option, None, Some, ⊤, false}
use Rattle.netlist_core.specs.Checked.{Plan, IsSound, free_bits}
use Rattle.lrat_checker.specs.LegalLogs.{Log, IsAttempt}
use Rattle.pair_gates.specs.Copies.{pair_clauses}
use Rattle.equiv_test.specs.Jobs.{Job as Comparing, IsGoing, lemmas_of}
use Rattle.tb_machine.specs.Simulations.{phases_of}
use Rattle.tb_bench.specs.declared.parts.Parts.{Parts}
use Rattle.tb_bench.specs.Runnable.{FitsDesign, IsRunnable}
use Rattle.tb_runner.specs.Jobs.{Job as Simulating}
use Rattle.result_book.specs.declared.goal.Want.{Want}
use Rattle.result_book.specs.declared.script.TestWord.TheVariants.{Unknown as Open}
use Rattle.result_book.specs.Scripts.{word_code}
use Rattle.campaign_plan.specs.declared.prepared.Prepared.{Prepared}
use Rattle.campaign_plan.specs.declared.trial.Trial.{Trial}
use Rattle.campaign_plan.specs.declared.trial.Trial.TheVariants.{Equality, Simulation}
use Rattle.campaign_run.specs.Limits.{IsTestable}
use Rattle.campaign_run.specs.Rows.{IsBrokenAt, IsRightWord}
use Rattle.campaign_core.specs.Testers.{Asked}
use Rattle.project_tester.specs.declared.job.Ended.{Ended}
use Rattle.project_tester.specs.declared.job.ProjectJob.{ProjectJob}
use Rattle.project_tester.specs.declared.job.Work.{Work}
use Rattle.project_tester.specs.declared.job.Work.TheVariants as work

-- which words a test of the campaign may give: its true word, or UNKNOWN where it may be given up under the bound
abbrev pub may_give : Prepared → Asked → ℕ → Type 0
may_give c asked word = IsRightWord c asked.mutation asked.test asked.bound word

-- ---- how many turns

-- the turns of 256 that so many lemmas or cycles take
abbrev pub turns_in : ℕ → ℕ
turns_in n = (n + 255) / 256

-- what an equality that goes on may take still, by the lemmas that it may add
abbrev pub lemma_turns : Comparing → ℕ
lemma_turns job = turns_in (job.limit - length (lemmas_of job))

-- and a simulation, by the cycles that are left; phase 0 comes before the first cycle
abbrev pub cycle_turns : Simulating → ℕ
cycle_turns job = turns_in ((phases_of job.limit - max job.phases 1) / 2)

-- what a test takes at most: a 256th of its bound, or of the project's cycles, rounded up
abbrev pub most_by : Prepared → Option Trial → ℕ → ℕ
most_by c None bound = 0
most_by c (Some Equality) bound = turns_in bound
most_by c (Some (Simulation bench pass fail)) bound = turns_in c.cycles

abbrev pub most_of : Prepared → Asked → ℕ
most_of c asked = most_by c (slice_get c.trials asked.test) asked.bound

-- ---- a job

abbrev pub asked_of : ℕ → Want → Asked
asked_of m want = record { mutation = m; test = want.test; bound = want.bound }

-- what the job was started for
abbrev pub asked_in : ProjectJob → Asked
asked_in job = asked_of job.mutation job.want

-- the code of the word that it gave
abbrev pub word_in : Work → Option ℕ
word_in (work.Equality job) = None
word_in (work.Simulation job) = None
word_in work.Refused = None
word_in (work.Over ended) = Some (word_code ended.word)

-- the attempt with which it was given up
abbrev pub attempt_in : Work → Option Log
attempt_in (work.Equality job) = None
attempt_in (work.Simulation job) = None
attempt_in work.Refused = None
attempt_in (work.Over ended) = ended.attempt

abbrev pub left_in : Work → ℕ
left_in (work.Equality job) = lemma_turns job
left_in (work.Simulation job) = cycle_turns job
left_in work.Refused = 0
left_in (work.Over ended) = 0

-- it compares the design with the mutation's mutant, with as many lemmas as the bound says
pub record IsComparing (c : Prepared) (asked : Asked) (job : Comparing) : Type 0 where
  pub test : slice_get c.trials asked.test ≡ Some Equality
  pub original : job.original.raw ≡ c.netlist
  pub sound : IsSound job.original
  pub mutant_sound : IsSound job.mutant
  pub broken : IsBrokenAt c asked.mutation job.mutant.raw
  pub limit : job.limit ≡ asked.bound
  pub going : IsGoing job

-- it simulates the test's bench with the mutation's mutant, from the project's seed and under its limit of cycles
pub record IsSimulating (c : Prepared) (asked : Asked) (job : Simulating) : Type 0 where
  pub testable : IsTestable c
  pub bench : Parts
  pub pass : List ℕ
  pub fail : List ℕ
  pub test : slice_get c.trials asked.test ≡ Some (Simulation bench pass fail)
  pub runnable : IsRunnable bench
  pub mutated : Plan
  pub sound : IsSound mutated
  pub broken : IsBrokenAt c asked.mutation mutated.raw
  pub fits : FitsDesign bench mutated.raw
  pub simulated : job.simulated ≡ record { bench = bench; netlist = mutated.raw; seed = c.word_seed }
  pub limit : job.limit ≡ c.cycles
  pub pass_is : job.pass ≡ pass
  pub fail_is : job.fail ≡ fail
  pub going : job.is_over ≡ false

-- ---- how a test ended

-- the attempt of a test that was given up: as many lemmas of the pair's clauses as the bound says, none of them empty
pub record IsAttemptOf (c : Prepared) (asked : Asked) (log : Log) : Type 0 where
  pub original : Plan
  pub mutated : Plan
  pub is : original.raw ≡ c.netlist
  pub sound : IsSound original
  pub mutated_sound : IsSound mutated
  pub broken : IsBrokenAt c asked.mutation mutated.raw
  pub clauses : log.clauses ≡ pair_clauses original mutated
  pub free : log.free ≡ free_bits c.netlist
  pub attempt : IsAttempt log.clauses log.free asked.bound log.lemmas

-- There is an attempt just where the word is UNKNOWN.
abbrev pub TellsAttempt : Prepared → Asked → Option ℕ → Option Log → Type 0
TellsAttempt c asked word None = word ≢ Some (word_code Open)
TellsAttempt c asked word (Some log) = (word ≡ Some (word_code Open)) × IsAttemptOf c asked log

-- the word is one that the test may give, with the attempt that goes with it
pub record HasEnded (c : Prepared) (asked : Asked) (ended : Ended) : Type 0 where
  pub word : may_give c asked (word_code ended.word)
  pub attempt : TellsAttempt c asked (Some (word_code ended.word)) ended.attempt

-- ---- whose job it is

abbrev pub IsWorkOf : Prepared → Asked → Work → Type 0
IsWorkOf c asked (work.Equality job) = IsComparing c asked job
IsWorkOf c asked (work.Simulation job) = IsSimulating c asked job
IsWorkOf c asked work.Refused = ⊤
IsWorkOf c asked (work.Over ended) = HasEnded c asked ended

-- the job is one of this campaign
abbrev pub IsJobOf : Prepared → ProjectJob → Type 0
IsJobOf c job = IsWorkOf c (asked_in job) job.work

-- For proofs alone.

-- a job at its start: it has no word, and at most so many turns before it
pub record HasBegun (c : Prepared) (asked : Asked) (w : Work) : Type 0 where
  pub is : IsWorkOf c asked w
  pub none : word_in w ≡ None
  pub few : left_in w ≤ most_of c asked
