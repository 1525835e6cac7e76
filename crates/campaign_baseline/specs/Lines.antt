-- The lines that tell the baselines.
use Rattle.std.specs.Prelude.{ℕ, List, [], ◌∷◌, ◌++◌, codes, decimal, slice_index_or}
use Rattle.tb_turns.specs.declared.verdict.SimVerdict.{SimVerdict}
use Rattle.tb_turns.specs.declared.verdict.SimVerdict.TheVariants.{Pass, Fail, Hang}
use Rattle.campaign_run.specs.declared.baseline.Baseline.{Baseline}

abbrev pub verdict_name : SimVerdict → List ℕ
verdict_name Pass = codes "PASS"
verdict_name Fail = codes "FAIL"
verdict_name Hang = codes "HANG"

-- the line of a baseline, by the names of the tests: `Test bench: PASS after 1006 cycles`
abbrev pub baseline_line : List (List ℕ) → Baseline → List ℕ
baseline_line names b = codes "Test " ++ (slice_index_or names b.test [] ++ (codes ": " ++ (verdict_name b.verdict ++ (codes " after " ++ (decimal b.cycles ++ codes " cycles\n")))))

abbrev pub baseline_text : List (List ℕ) → List Baseline → List ℕ
baseline_text names [] = []
baseline_text names (b ∷ more) = baseline_line names b ++ baseline_text names more

-- a line where the word is not PASS
abbrev pub unless_pass : SimVerdict → List ℕ → List ℕ
unless_pass Pass line = []
unless_pass Fail line = line
unless_pass Hang line = line

-- the line of a baseline that does not pass
abbrev pub failing_line : List (List ℕ) → Baseline → List ℕ
failing_line names b = unless_pass b.verdict (baseline_line names b)

abbrev pub failing_text : List (List ℕ) → List Baseline → List ℕ
failing_text names [] = []
failing_text names (b ∷ more) = failing_line names b ++ failing_text names more
