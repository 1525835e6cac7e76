use Rattle.elab_finish.proofs.Common.{Result, Ok, Err, MatchResult, subst, RawNetlist, DesignError, IsOver, IsWithin}
use Rattle.elab_finish.proofs.checking.test_netlist.Goals as goal

both : (r : Result (Unit {0}) DesignError) (A B : Type 0) (P : DesignError → Type 0) → A → MatchResult r (λ u. B) P → MatchResult r (λ u. A × B) P
both (Ok u) A B P a h = (a, h)
both (Err e) A B P a h = h

pub returns-in-Ok : goal.returns-in-Ok
returns-in-Ok c = λ b.
    let netlist : RawNetlist = c.args.raw.now in
    let within : IsWithin netlist = subst (λ (r : Result (Unit {0}) DesignError). MatchResult r (λ u. IsWithin netlist) (IsOver b netlist)) c.in-Ok.is (c.test_limits.ensures b) in
    both c.test_names.result (IsWithin netlist) _ (IsOver b netlist) within (c.test_names.ensures b within)
