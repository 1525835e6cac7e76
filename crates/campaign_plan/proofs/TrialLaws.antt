-- The tests of a project are run in one way, or there is one fault of the first that cannot be run.
use Rattle.campaign_plan.proofs.Common.{◌≡◌, inl, inr, ℕ, ◌+◌, zero, suc, List, [], ◌∷◌, slice_get, Some, sym, subst, ◌∙◌, SourceFile, RawNetlist, TestKind, Eq, Sim, TestPlan, bench_without_fault}
use Rattle.campaign_plan.proofs.Common.{benches_alike, faults_are_one, tops_are_one, Trial, Equality, Simulation, SameTests, numbers_in, AreTrials, HasNoTrial, IsReading, IsTrial, IsTrialFault}
use Rattle.campaign_plan.proofs.Common.{Reading}
use Rattle.source_trees.proofs.OneAnswer.{modules_are_one}
use Rattle.project_benches.specs.SourceError.{SourceError}
use Rattle.flat_items.specs.Tops.{IsTop}

pub readings_are_one : (files : List SourceFile) (names : List (List ℕ)) (top : List ℕ) (netlist : RawNetlist) (a b : Reading) → IsReading files names top netlist a → IsReading files names top netlist b → a ≡ b
readings_are_one files names top netlist a b h k =
    let modules : a.modules ≡ b.modules = modules_are_one files a.modules b.modules h.read k.read in
    let tops : a.top ≡ b.top = tops_are_one b.modules top a.top b.top (subst (λ ms. IsTop ms top a.top) modules h.is_top) k.is_top in
    let named : a.names ≡ b.names = h.names_are ∙ sym k.names_are in
    let netlists : a.netlist ≡ b.netlist = h.netlist_is ∙ sym k.netlist_is in
    λ i. record { names = named i; modules = modules i; top = tops i; netlist = netlists i }

trial_alike : (r : Reading) (kind : TestKind) (a b : Trial) → IsTrial r kind a → IsTrial r kind b → SameTests (Some a) (Some b)
trial_alike r Eq Equality Equality h k = tt
trial_alike r (Sim name files pass fail) (Simulation a p f) (Simulation b q g) h k =
    (benches_alike r.modules (numbers_in r.names files) name r.top r.netlist a b h.0 k.0, h.1 ∙ sym k.1, h.2 ∙ sym k.2)
trial_alike r Eq (Simulation a p f) b h k = absurd h
trial_alike r Eq Equality (Simulation b q g) h k = absurd k
trial_alike r (Sim name files pass fail) Equality b h k = absurd h
trial_alike r (Sim name files pass fail) (Simulation a p f) Equality h k = absurd k

pub trials_alike : (r : Reading) (tests : List TestPlan) (xs ys : List Trial) (t : ℕ) → AreTrials r tests xs → AreTrials r tests ys → SameTests (slice_get xs t) (slice_get ys t)
trials_alike r [] [] [] t h k = tt
trials_alike r [] [] (y ∷ ys) t h k = absurd k
trials_alike r [] (x ∷ xs) ys t h k = absurd h
trials_alike r (test ∷ tests) [] ys t h k = absurd h
trials_alike r (test ∷ tests) (x ∷ xs) [] t h k = absurd k
trials_alike r (test ∷ tests) (x ∷ xs) (y ∷ ys) zero h k = trial_alike r test.kind x y h.0 k.0
trials_alike r (test ∷ tests) (x ∷ xs) (y ∷ ys) (suc t) h k = trials_alike r tests xs ys t h.1 k.1

trial_not_refused : (r : Reading) (number : ℕ) (kind : TestKind) (trial : Trial) (e : SourceError) → IsTrial r kind trial → ¬ HasNoTrial r number kind e
trial_not_refused r number Eq trial e has none = none
trial_not_refused r number (Sim name files pass fail) (Simulation bench p f) e has none = bench_without_fault r.names number r.modules (numbers_in r.names files) name r.top r.netlist bench e has.0 none
trial_not_refused r number (Sim name files pass fail) Equality e has none = has

pub trials_without_fault : (r : Reading) (number : ℕ) (tests : List TestPlan) (trials : List Trial) (e : SourceError) → AreTrials r tests trials → ¬ IsTrialFault r number tests e
trials_without_fault r number [] trials e has none = none
trials_without_fault r number (test ∷ tests) [] e has none = has
trials_without_fault r number (test ∷ tests) (trial ∷ trials) e has (inl here) = trial_not_refused r number test.kind trial e has.0 here
trials_without_fault r number (test ∷ tests) (trial ∷ trials) e has (inr later) = trials_without_fault r (number + 1) tests trials e has.1 later.1

trial_refused_once : (r : Reading) (number : ℕ) (kind : TestKind) (x y : SourceError) → HasNoTrial r number kind x → HasNoTrial r number kind y → x ≡ y
trial_refused_once r number Eq x y h k = absurd h
trial_refused_once r number (Sim name files pass fail) x y h k = faults_are_one r.names number r.modules (numbers_in r.names files) name r.top r.netlist x y h k

pub trial_faults_are_one : (r : Reading) (number : ℕ) (tests : List TestPlan) (x y : SourceError) → IsTrialFault r number tests x → IsTrialFault r number tests y → x ≡ y
trial_faults_are_one r number [] x y h k = absurd h
trial_faults_are_one r number (test ∷ tests) x y (inl h) (inl k) = trial_refused_once r number test.kind x y h k
trial_faults_are_one r number (test ∷ tests) x y (inl h) (inr k) = absurd (trial_not_refused r number test.kind k.0.0 x k.0.1 h)
trial_faults_are_one r number (test ∷ tests) x y (inr h) (inl k) = absurd (trial_not_refused r number test.kind h.0.0 y h.0.1 k)
trial_faults_are_one r number (test ∷ tests) x y (inr h) (inr k) = trial_faults_are_one r (number + 1) tests x y h.1 k.1
