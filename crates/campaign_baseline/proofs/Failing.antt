-- The line of a baseline that does not pass.
use Rattle.campaign_baseline.proofs.Common.{◌≡◌, ◌≢◌, ◌∙◌, List, ℕ, ◌++◌, refl, sym, ap, append-nil, SimVerdict, Pass, Fail, Hang, Baseline}
use Rattle.campaign_baseline.specs.Lines.{baseline_line, failing_line, unless_pass}

told_unless : (v : SimVerdict) (line : List ℕ) → v ≢ Pass → unless_pass v line ≡ line
told_unless Pass line other = absurd (other refl)
told_unless Fail line other = refl
told_unless Hang line other = refl

-- none where it passes
pub passing_text : (names : List (List ℕ)) (b : Baseline) (text : List ℕ) → b.verdict ≡ Pass → text ≡ text ++ failing_line names b
passing_text names b text is = sym (ap (λ (v : SimVerdict). text ++ unless_pass v (baseline_line names b)) is ∙ append-nil text)

pub failing_more : (names : List (List ℕ)) (b : Baseline) (text new : List ℕ) → b.verdict ≢ Pass → new ≡ text ++ baseline_line names b → new ≡ text ++ failing_line names b
failing_more names b text new other is = is ∙ ap (λ (line : List ℕ). text ++ line) (sym (told_unless b.verdict (baseline_line names b) other))
