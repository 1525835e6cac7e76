-- A right word is one that the kind of its test has.
use Rattle.project_tester.proofs.Common.{◌≡◌, ◌≢◌, arith, ℕ, ◌⊎◌, slice_get, Option, None, Some, inl, inr, refl, sym, subst, IsSomeAnd, Site, SimVerdict, Prepared, Trial, Equality, Simulation, IsPlan}
use Rattle.project_tester.proofs.Common.{plan_kind, told_verdict, IsGivenUpAt, IsRightWord, IsTrueWordAt}
use Rattle.result_book.specs.Campaigns.{eq_kind, sim_kind, IsSimWord, IsWordOf, IsWordOfKind}
use Rattle.tb_turns.specs.declared.verdict.SimVerdict.TheVariants as v
use Rattle.campaign_plan.specs.Laws.{code_of}

sim_is_word : (verdict : SimVerdict) (word : ℕ) → word ≡ told_verdict verdict → IsSimWord word
sim_is_word v.Pass word is = inl is
sim_is_word v.Fail word is = inr (inl is)
sim_is_word v.Hang word is = inr (inr is)

-- an equality is no simulation
no_sim : eq_kind ≢ sim_kind
no_sim is = omega (arith, is)

true_is_word : (c : Prepared) (t : ℕ) (site : Option Site) (trial : Trial) (word : ℕ) → IsTrueWordAt c t site (Some trial) word → IsWordOfKind (code_of trial) word
true_is_word c t None trial word right = absurd right
true_is_word c t (Some site) Equality word (inl right) = inl (no_sim, inl right.0)
true_is_word c t (Some site) Equality word (inr right) = inl (no_sim, inr (inl right.0))
true_is_word c t (Some site) (Simulation bench pass fail) word right = inr (refl, sim_is_word right.said.verdict word right.said.word_is)

given_up_is_word : (c : Prepared) (site : Option Site) (trial : Trial) (bound word : ℕ) → IsGivenUpAt c site (Some trial) bound word → IsWordOfKind (code_of trial) word
given_up_is_word c None trial bound word given = absurd given
given_up_is_word c (Some site) Equality bound word given = inl (no_sim, inr (inr given.0))
given_up_is_word c (Some site) (Simulation bench pass fail) bound word given = absurd given

no_true : (c : Prepared) (t : ℕ) (site : Option Site) (word : ℕ) → ¬ IsTrueWordAt c t site None word
no_true c t None word right = right
no_true c t (Some site) word right = right

no_given_up : (c : Prepared) (site : Option Site) (bound word : ℕ) → ¬ IsGivenUpAt c site None bound word
no_given_up c None bound word given = given
no_given_up c (Some site) bound word given = given

-- a right word is one of its test's kind
pub plan_word : (c : Prepared) (m test bound word : ℕ) → IsPlan c → IsRightWord c m test bound word → IsWordOf c.campaign test word
plan_word c m test bound word plan right = go (slice_get c.trials test) refl right
  where
    said : (trial : Trial) → slice_get c.trials test ≡ Some trial → IsWordOfKind (code_of trial) word → IsWordOf c.campaign test word
    said trial at is = subst (λ (o : Option ℕ). IsSomeAnd o (λ kind. IsWordOfKind kind word)) (sym (plan_kind c test trial plan at)) is

    go : (o : Option Trial) → slice_get c.trials test ≡ o → (IsTrueWordAt c test (slice_get c.sites m) o word ⊎ IsGivenUpAt c (slice_get c.sites m) o bound word) → IsWordOf c.campaign test word
    go None at (inl right) = absurd (no_true c test (slice_get c.sites m) word right)
    go None at (inr given) = absurd (no_given_up c (slice_get c.sites m) bound word given)
    go (Some trial) at (inl right) = said trial at (true_is_word c test (slice_get c.sites m) trial word right)
    go (Some trial) at (inr given) = said trial at (given_up_is_word c (slice_get c.sites m) trial bound word given)
