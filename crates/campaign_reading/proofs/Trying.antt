-- Tests that are read one after the other.
use Rattle.campaign_reading.proofs.Common.{◌≡◌, inl, inr, ℕ, ◌+◌, ◌<◌, List, [], ◌∷◌, ◌++◌, length, map, take, drop, get_or, add-one, take-suc, drop-cons, take-append-drop, length-take-le, sym, ap}
use Rattle.campaign_reading.proofs.Common.{subst, ◌∙◌, arith, SourceFile, SourceError, Trial, numbers_from, numbers_in, AreTrials, HasNoTrial, HasNoTrialFor, HasNoTrials, IsTrial, IsTrialFault}
use Rattle.campaign_reading.proofs.Common.{Reading}
use Rattle.project_file.specs.declared.project.TestKind.{TestKind}
use Rattle.project_file.specs.declared.project.TestKind.TheVariants.{Sim}
use Rattle.campaign_plan.specs.Benches.{HasNoBench}
use Rattle.project_file.specs.declared.project.TestPlan.{TestPlan}
use Rattle.project_sources.specs.declared.netlist.NetlistError.{NetlistError}
use Rattle.project_sources.specs.declared.netlist.NetlistError.TheVariants.{Source as Refused, Memory}

-- Numbers of files.

abbrev rest : ℕ → List SourceFile → List (List ℕ) → List ℕ
rest number files names = numbers_from number (map (λ file. file.name) (drop number files)) names

-- Tests.

trials_push : (r : Reading) (tests : List TestPlan) (trials : List Trial) (test : TestPlan) (trial : Trial) → AreTrials r tests trials → IsTrial r test.kind trial → AreTrials r (tests ++ test ∷ []) (trials ++ trial ∷ [])
trials_push r [] [] test trial held is = (is, tt)
trials_push r [] (t ∷ trials) test trial held is = absurd held
trials_push r (t ∷ tests) [] test trial held is = absurd held
trials_push r (t ∷ tests) (u ∷ trials) test trial held is = (held.0, trials_push r tests trials test trial held.1 is)

pub trials_more : (r : Reading) (tests : List TestPlan) (number : ℕ) (trials : List Trial) (d : TestPlan) (trial : Trial) → number < length tests → AreTrials r (take number tests) trials → IsTrial r (get_or tests number d).kind trial → AreTrials r (take (number + 1) tests) (trials ++ trial ∷ [])
trials_more r tests number trials d trial below held is =
    let more : take (number + 1) tests ≡ take number tests ++ get_or tests number d ∷ [] = ap (λ k. take k tests) (add-one number) ∙ take-suc tests number d below in
    subst (λ (ts : List TestPlan). AreTrials r ts (trials ++ trial ∷ [])) (sym more) (trials_push r (take number tests) trials (get_or tests number d) trial held is)

fault_behind : (r : Reading) (number : ℕ) (before after : List TestPlan) (trials : List Trial) (test : TestPlan) (error : SourceError) → AreTrials r before trials → HasNoTrial r (number + length before) test.kind error → IsTrialFault r number (before ++ test ∷ after) error
fault_behind r number [] after [] test error held none =
    let same : number + 0 ≡ number = omega arith in inl (subst (λ (k : ℕ). HasNoTrial r k test.kind error) same none)
fault_behind r number [] after (t ∷ trials) test error held none = absurd held
fault_behind r number (b ∷ before) after [] test error held none = absurd held
fault_behind r number (b ∷ before) after (t ∷ trials) test error held none =
    let there : number + length (b ∷ before) ≡ number + 1 + length before = omega arith in
    inr ((t, held.0), fault_behind r (number + 1) before after trials test error held.1 (subst (λ (k : ℕ). HasNoTrial r k test.kind error) there none))

-- Where the test of a number has no bench, and those before it have theirs, it is the fault of the tests.
pub fault_at : (r : Reading) (tests : List TestPlan) (number : ℕ) (trials : List Trial) (d : TestPlan) (error : NetlistError) → number < length tests → AreTrials r (take number tests) trials → HasNoTrialFor r number (get_or tests number d).kind error → HasNoTrials r tests error
fault_at r tests number trials d Memory below held none = tt
fault_at r tests number trials d (Refused error) below held none =
    let split : take number tests ++ get_or tests number d ∷ drop (number + 1) tests ≡ tests = ap (λ (ts : List TestPlan). take number tests ++ ts) (sym (drop-cons tests number d below ∙ ap (λ k. get_or tests number d ∷ drop k tests) (sym (add-one number)))) ∙ take-append-drop number tests in
    let counted : number ≡ 0 + length (take number tests) = omega (arith, length-take-le number tests (omega arith)) in
    subst (λ (ts : List TestPlan). IsTrialFault r 0 ts error) split (fault_behind r 0 (take number tests) (drop (number + 1) tests) trials (get_or tests number d) error held (subst (λ (k : ℕ). HasNoTrial r k (get_or tests number d).kind error) counted none))

-- Why a test is refused, from what its bench is refused for.
pub bench_refused : (r : Reading) (number : ℕ) (kind : TestKind) (bench : List ℕ) (files : List (List ℕ)) (pass fail numbers name : List ℕ) (error : NetlistError) → kind ≡ Sim bench files pass fail → numbers ≡ numbers_in r.names files → name ≡ bench → HasNoBench r.names number r.modules numbers name r.top r.netlist error → HasNoTrialFor r number kind error
bench_refused r number kind bench files pass fail numbers name Memory is counted named none = tt
bench_refused r number kind bench files pass fail numbers name (Refused error) is counted named none =
    let there : HasNoBench r.names number r.modules (numbers_in r.names files) name r.top r.netlist (Refused error) = subst (λ (ns : List ℕ). HasNoBench r.names number r.modules ns name r.top r.netlist (Refused error)) counted none in
    let here : HasNoBench r.names number r.modules (numbers_in r.names files) bench r.top r.netlist (Refused error) = subst (λ (n : List ℕ). HasNoBench r.names number r.modules (numbers_in r.names files) n r.top r.netlist (Refused error)) named there in
    subst (λ (k : TestKind). HasNoTrial r number k error) (sym is) here
