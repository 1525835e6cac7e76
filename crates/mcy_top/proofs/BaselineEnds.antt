-- How `baseline` ends.
use Rattle.mcy_top.proofs.Common.{◌≡◌, ◌∙◌, ◌<◌, ℕ, List, Option, Bool, true, false, length, refl, sym, ap, subst, ◌↔◌, IsTrue, All, All-weaker, slice_get_within, Rose, Held, Prepared, Simulation}
use Rattle.mcy_top.proofs.Common.{IsPlan, plan_fit, Refusal, IsMade, IsUnmade, AllPass, IsBaseline, baseline_limit, HasBaselines, Outcome, Done, BaselineBad, WriteFault, Memory, Ending, Written}
use Rattle.mcy_top.proofs.Common.{Refused, NoMemory, baseline_outcome, baselines_text, TellsBaselines, ToldBaselines, ended_outcome, Delivers, Answered, HasCause, IsAccepted, IsQuiet, outcome_of}
use Rattle.campaign_plan.proofs.Fitted.{plan_trials}
use Rattle.campaign_reading.specs.declared.refusal.Refusal.TheVariants as r
use Rattle.campaign_run.specs.declared.baseline.Baseline.{Baseline}

-- each is of a test that has a name
pub tests_have_names : (c : Prepared) (list read : List Baseline) → read ≡ list → IsPlan c → HasBaselines c list → All (λ (b : Baseline). b.test < length c.campaign.test_names) read
tests_have_names c list read same plan are =
    let names : length c.campaign.test_names ≡ length c.trials = (plan_fit c plan).names ∙ plan_trials c plan in
    subst (All (λ (b : Baseline). b.test < length c.campaign.test_names)) (sym same)
    (All-weaker (IsBaseline c (baseline_limit c)) (λ (b : Baseline). b.test < length c.campaign.test_names)
    (λ b is. subst (λ (n : ℕ). b.test < n) (sym names) (slice_get_within c.trials b.test (Simulation is.bench is.pass is.fail) is.test)) list are.each)

-- what was asked of the list and written of it
pub passes_of : (pass : Bool) (list read : List Baseline) → read ≡ list → (IsTrue pass ↔ AllPass read) → (IsTrue pass ↔ AllPass list)
passes_of pass list read same says = subst (λ (l : List Baseline). IsTrue pass ↔ AllPass l) same says

pub delivers_of : (c : Prepared) (before now : Option (List ℕ)) (text : List ℕ) (list read : List Baseline) (ending : Ending) → read ≡ list → text ≡ baselines_text c read → Delivers before now text ending → Delivers before now (baselines_text c list) ending
delivers_of c before now text list read ending same is wrote = subst (λ (t : List ℕ). Delivers before now t ending) (is ∙ ap (baselines_text c) same) wrote

-- the text was made, and then written or not

pub delivered_tells : (c : Prepared) (list : List Baseline) (before now : Option (List ℕ)) (pass : Bool) (ending : Ending) → HasBaselines c list → (IsTrue pass ↔ AllPass list) → Delivers before now (baselines_text c list) ending → TellsBaselines c before now (ended_outcome (baseline_outcome pass) ending)
delivered_tells c list before now true Written are says wrote = (list, are, says.0 refl, wrote)
delivered_tells c list before now false Written are says wrote = (list, are, (λ all. let never : false ≡ true = says.1 all in cc), wrote)
delivered_tells c list before now pass Refused are says wrote = (list, are, wrote)
delivered_tells c list before now pass NoMemory are says wrote = wrote

pub delivered_quiet : (c : Prepared) (list : List Baseline) (before now : Option (List ℕ)) (pass : Bool) (ending : Ending) → Delivers before now (baselines_text c list) ending → IsQuiet before now (ended_outcome (baseline_outcome pass) ending)
delivered_quiet c list before now true Written wrote = tt
delivered_quiet c list before now false Written wrote = tt
delivered_quiet c list before now pass Refused wrote = tt
delivered_quiet c list before now pass NoMemory wrote = wrote

pub delivered_cause : (files files' keeper sink sink' : ℕ) (pass : Bool) (ending : Ending) → (ending ≡ Refused → Rose sink sink') → HasCause files files' keeper keeper sink sink' (ended_outcome (baseline_outcome pass) ending)
delivered_cause files files' keeper sink sink' true Written rose = tt
delivered_cause files files' keeper sink sink' false Written rose = tt
delivered_cause files files' keeper sink sink' pass Refused rose = rose refl
delivered_cause files files' keeper sink sink' pass NoMemory rose = tt

pub delivered_answered : (words : List (List ℕ)) (held : Option Held) (pass : Bool) (ending : Ending) → IsAccepted words held → Answered words held (ended_outcome (baseline_outcome pass) ending)
delivered_answered words held true Written accepted = accepted
delivered_answered words held false Written accepted = accepted
delivered_answered words held pass Refused accepted = accepted
delivered_answered words held pass NoMemory accepted = tt

-- A call of `baseline`.

-- the files were refused
pub told_refused : (held : Option Held) (before : Option (List ℕ)) (refusal : Refusal) → IsUnmade held refusal → ToldBaselines held before before (outcome_of refusal)
told_refused held before (r.ProjectBad error) why = record { why = why; quiet = refl }
told_refused held before (r.ScriptBad error) why = record { why = why; quiet = refl }
told_refused held before (r.SourceBad error) why = record { why = why; quiet = refl }
told_refused held before (r.Missing name) why = record { why = why; quiet = refl }
told_refused held before (r.TooLarge name) why = record { why = why; quiet = refl }
told_refused held before (r.ReadFault name) why = record { why = why; quiet = refl }
told_refused held before r.Memory why = refl

-- they make a campaign
pub told_made : (held : Option Held) (c : Prepared) (before now : Option (List ℕ)) (o : Outcome) → IsMade held c → TellsBaselines c before now o → ToldBaselines held before now o
told_made held c before now Done made tells = (c, made, tells)
told_made held c before now BaselineBad made tells = (c, made, tells)
told_made held c before now WriteFault made tells = (c, made, tells)
told_made held c before now Memory made tells = tells
told_made held c before now o made tells = absurd tells
