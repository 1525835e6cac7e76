-- What a turn of a job comes to: how its test ended, or none yet.
use Rattle.std.specs.Prelude.{◌≡◌, ◌<◌, Option, None, Some, ⊤, false}
use Rattle.equiv_test.specs.Jobs.{Job as Comparing, IsGoing}
use Rattle.equiv_test.specs.declared.verdict.EqVerdict.{EqVerdict}
use Rattle.equiv_test.specs.declared.verdict.EqVerdict.TheVariants.{NoChange, Change, Unknown}
use Rattle.equiv_test.specs.Verdicts.{Tells}
use Rattle.tb_turns.specs.declared.verdict.SimVerdict.{SimVerdict}
use Rattle.tb_runner.specs.Jobs.{Job as Simulating}
use Rattle.tb_runner.specs.Simulated.{Says}
use Rattle.result_book.specs.declared.script.TestWord.TheVariants.{Pass, Fail, Unknown as Open}
use Rattle.result_book.specs.Scripts.{word_code}
use Rattle.campaign_plan.specs.declared.prepared.Prepared.{Prepared}
use Rattle.campaign_run.specs.Simulated.{told_verdict}
use Rattle.campaign_core.specs.Testers.{Asked}
use Rattle.project_tester.specs.declared.job.Ended.{Ended}
use Rattle.project_tester.specs.declared.job.Work.{Work}
use Rattle.project_tester.specs.declared.job.Work.TheVariants as work
use Rattle.project_tester.specs.ProjectJobs.{cycle_turns, left_in, lemma_turns, word_in, HasEnded, IsWorkOf}

-- For proofs alone.

-- how an equality that ended with this verdict is told
abbrev pub IsToldBy : EqVerdict → Ended → Type 0
IsToldBy (NoChange refutation) ended = (word_code ended.word ≡ word_code Pass) × (ended.attempt ≡ None)
IsToldBy (Change difference) ended = (word_code ended.word ≡ word_code Fail) × (ended.attempt ≡ None)
IsToldBy (Unknown attempt) ended = (word_code ended.word ≡ word_code Open) × (ended.attempt ≡ Some attempt)

-- a turn of an equality: it goes on, with fewer turns left, or it ended with a verdict
abbrev pub ComparesTo : (old new : Comparing) → Option Ended → Type 0
ComparesTo old new None = IsGoing new × (lemma_turns new < lemma_turns old)
ComparesTo old new (Some ended) = (verdict : EqVerdict) × Tells old.original old.mutant old.limit verdict × IsToldBy verdict ended

-- and of a simulation
abbrev pub SimulatesTo : (old new : Simulating) → Option Ended → Type 0
SimulatesTo old new None = (new.is_over ≡ false) × (cycle_turns new < cycle_turns old)
SimulatesTo old new (Some ended) = (verdict : SimVerdict) × Says old.simulated old.limit old.pass old.fail verdict × (word_code ended.word ≡ told_verdict verdict) × (ended.attempt ≡ None)

-- the work of a job that has no word yet
abbrev pub CanGoOn : Work → Type 0
CanGoOn (work.Equality job) = IsGoing job
CanGoOn (work.Simulation job) = job.is_over ≡ false
CanGoOn work.Refused = ⊤
CanGoOn (work.Over ended) = ⊥

-- a turn of any work: it goes on, with fewer turns left, or it ended
abbrev pub GoesOn : (old new : Work) → Option Ended → Type 0
GoesOn old new None = (word_in new ≡ None) × (left_in new < left_in old)
GoesOn old new (Some ended) = ⊤

-- it is the campaign's test still, or ended as this may
abbrev pub ComesTo : Prepared → Asked → Work → Option Ended → Type 0
ComesTo c asked new None = IsWorkOf c asked new
ComesTo c asked new (Some ended) = HasEnded c asked ended
