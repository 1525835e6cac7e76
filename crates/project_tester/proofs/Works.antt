-- The turns of a job's work, from those of its equality or of its simulation.
use Rattle.project_tester.proofs.Common.{◌≡◌, Option, None, Result, false, sym, ap, subst, MatchResult, MutantsAreNetlists, Comparing, IsGoing, IsSameTest, Simulating, IsSameJob, Prepared, Asked}
use Rattle.project_tester.proofs.Common.{Ended, Work, word_in, IsWorkOf, CanGoOn, ComesTo, ComparesTo, GoesOn, SimulatesTo}
use Rattle.project_tester.specs.declared.job.Work.TheVariants as work
use Rattle.project_tester.proofs.Equalities.{compared_kept, compared_turned}
use Rattle.project_tester.proofs.Simulations.{simulated_kept, simulated_turned}

-- a job without a word goes on
pub can_go_on : (c : Prepared) (asked : Asked) (w : Work) → IsWorkOf c asked w → word_in w ≡ None → CanGoOn w
can_go_on c asked (work.Equality job) is none = is.going
can_go_on c asked (work.Simulation job) is none = is.going
can_go_on c asked work.Refused is none = tt
can_go_on c asked (work.Over ended) is none = cc

-- ---- an equality

pub equality_can : (w : Work) (job : Comparing) → w ≡ work.Equality job → CanGoOn w → IsGoing job
equality_can w job is can = subst CanGoOn is can

module _ {E : Type 0} (w : Work) (old new : Comparing) (is : w ≡ work.Equality old) (same : IsSameTest old new) (r : Result (Option Ended) E) (turned : MatchResult r (ComparesTo old new) (λ _. IsGoing new)) where
  pub equality_turned : MatchResult r (GoesOn w (work.Equality new)) (λ _. word_in (work.Equality new) ≡ None)
  equality_turned = subst (λ (x : Work). MatchResult r (GoesOn x (work.Equality new)) (λ _. word_in (work.Equality new) ≡ None)) (sym is) (compared_turned old new same r turned)

  pub equality_kept : MutantsAreNetlists → (c : Prepared) (asked : Asked) → IsWorkOf c asked w → MatchResult r (ComesTo c asked (work.Equality new)) (λ _. IsWorkOf c asked (work.Equality new))
  equality_kept laws c asked mine = compared_kept old new same laws c asked (subst (IsWorkOf c asked) is mine) r turned

-- ---- a simulation

pub simulation_can : (w : Work) (job : Simulating) → w ≡ work.Simulation job → CanGoOn w → job.is_over ≡ false
simulation_can w job is can = subst CanGoOn is can

module _ (w : Work) (old new : Simulating) (is : w ≡ work.Simulation old) (same : IsSameJob old new) (o : Option Ended) (turned : SimulatesTo old new o) where
  pub simulation_turned : GoesOn w (work.Simulation new) o
  simulation_turned = subst (λ (x : Work). GoesOn x (work.Simulation new) o) (sym is) (simulated_turned old new same o turned)

  pub simulation_kept : (c : Prepared) (asked : Asked) → IsWorkOf c asked w → ComesTo c asked (work.Simulation new) o
  simulation_kept c asked mine = simulated_kept old new same c asked (subst (IsWorkOf c asked) is mine) o turned

-- ---- work that does not go on

pub refused_none : (w : Work) → w ≡ work.Refused → word_in w ≡ None
refused_none w is = ap word_in is

pub over_cannot : (w : Work) (ended : Ended) → w ≡ work.Over ended → ¬ CanGoOn w
over_cannot w ended is can = subst CanGoOn is can
