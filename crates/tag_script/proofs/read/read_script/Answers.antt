use Rattle.tag_script.proofs.Common.{◌≡◌, ℕ, true, List, IfOk, length, subst, script_fits}
use Rattle.tag_script.proofs.Fitting.{reads_fit}
use Rattle.tag_script.proofs.read.read_script.Goals as goal

pub returns-clause-fits : goal.returns-clause-fits
returns-clause-fits c =
    subst (λ (tests : List (List ℕ)). IfOk c.read_rows.result (λ s. script_fits (length tests) (length c.args.tags.now) s ≡ true)) c.as_slice-2.ensures
    (subst (λ (tags : List (List ℕ)). IfOk c.read_rows.result (λ s. script_fits (length c.as_slice-2.result.now) (length tags) s ≡ true)) c.as_slice-3.ensures
    (reads_fit _ _ c.read_rows.result c.read_rows.ensures))
