-- Baselines are told in one way, just where the files make a campaign.
use Rattle.mcy_top.proofs.Common.{◌≡◌, ◌≢◌, ◌⊎◌, inl, inr, ℕ, List, Option, Some, refl, sym, ap, subst, Appends, Prepared, IsPlan, plan_once, Refusal, IsMade, IsUnmade, AllPass, lists_once}
use Rattle.mcy_top.proofs.Common.{BaselinesAreOne, baseline_text, HasBaselines, Outcome, Done, BaselineBad, ProjectBad, ScriptBad, SourceBad, Missing, TooLarge, ReadFault, WriteFault, Memory}
use Rattle.mcy_top.proofs.Common.{baselines_text, TellsBaselines, ToldBaselines, IsCutShort, outcome_of}
use Rattle.campaign_reading.specs.declared.refusal.Refusal.TheVariants as r
use Rattle.campaign_run.specs.declared.baseline.Baseline.{Baseline}
use Rattle.mcy_top.specs.BaselineLaws.{AreTold, BaselineBadIsExact, BaselineCallsAgree, BaselineRefusalsAreExact, BaselinesComplete, WroteTheSame}
use Rattle.mcy_top.proofs.Exacting.{refused_not_made, refused_once}

-- One text.

-- a project and its sources have one text
same_wrote : BaselinesAreOne → (c d : Prepared) (list others : List Baseline) (before now before' now' : Option (List ℕ)) → IsPlan c → IsPlan d → c.campaign.meta ≡ d.campaign.meta → HasBaselines c list → HasBaselines d others
    → Appends before now (baselines_text c list) → Appends before' now' (baselines_text d others) → WroteTheSame before now before' now'
same_wrote one c d list others before now before' now' plan other meta are other_are wrote other_wrote =
    let lists : list ≡ others = lists_once one c d list others plan other meta are other_are in
    let names : c.campaign.test_names ≡ d.campaign.test_names = ap (λ (p : Prepared). p.campaign.test_names) (plan_once c d plan other meta).0 in
    let same : baselines_text c list ≡ baselines_text d others = λ i. baseline_text (names i) (lists i) in
    (baselines_text c list, wrote, subst (λ (text : List ℕ). Appends before' now' text) (sym same) other_wrote)

pub calls_agree : BaselinesAreOne → BaselineCallsAgree
calls_agree one c d before now before' now' o p plan other meta tells tell = go o p tells tell
  where
    go : (o p : Outcome) → TellsBaselines c before now o → TellsBaselines d before' now' p → AreTold o → AreTold p → (o ≡ p) × WroteTheSame before now before' now'
    go Done Done (list, are, all, wrote) (others, other_are, other_all, other_wrote) x y = (refl, same_wrote one c d list others before now before' now' plan other meta are other_are wrote other_wrote)
    go BaselineBad BaselineBad (list, are, some, wrote) (others, other_are, other_some, other_wrote) x y = (refl, same_wrote one c d list others before now before' now' plan other meta are other_are wrote other_wrote)
    go Done BaselineBad (list, are, all, wrote) (others, other_are, some, other_wrote) x y = absurd (some (subst AllPass (lists_once one c d list others plan other meta are other_are) all))
    go BaselineBad Done (list, are, some, wrote) (others, other_are, all, other_wrote) x y = absurd (some (subst AllPass (sym (lists_once one c d list others plan other meta are other_are)) all))
    go Done q s t x y = absurd y
    go BaselineBad q s t x y = absurd y
    go q p s t x y = absurd x

-- One answer.

pub bad_exact : BaselinesAreOne → BaselineBadIsExact
bad_exact one c list before now o plan are tells = (
  λ done. all (subst (λ (p : Outcome). TellsBaselines c before now p) done tells),
  λ bad. some (subst (λ (p : Outcome). TellsBaselines c before now p) bad tells),
)
  where
    all : TellsBaselines c before now Done → AllPass list
    all (others, other_are, pass, wrote) = subst AllPass (sym (lists_once one c c list others plan plan refl are other_are)) pass

    some : TellsBaselines c before now BaselineBad → ¬ AllPass list
    some (others, other_are, fails, wrote) pass = fails (subst AllPass (lists_once one c c list others plan plan refl are other_are) pass)

-- The files.

pub baseline_refusals : BaselineRefusalsAreExact
baseline_refusals map before now q o h told = go o told
  where
    one : (p : Refusal) → IsUnmade (Some map) p → (¬ IsCutShort (outcome_of p)) → outcome_of p ≡ outcome_of q
    one p why whole = ap outcome_of (refused_once map p q (record { cause = why; by_files = whole }) h)

    none : (c : Prepared) → ¬ IsMade (Some map) c
    none c made = refused_not_made map q c h made

    go : (o : Outcome) → ToldBaselines (Some map) before now o → (o ≡ outcome_of q) ⊎ IsCutShort o
    go (ProjectBad error) s = inl (one (r.ProjectBad error) s.why (λ b. b))
    go (ScriptBad error) s = inl (one (r.ScriptBad error) s.why (λ b. b))
    go (SourceBad error) s = inl (one (r.SourceBad error) s.why (λ b. b))
    go (Missing name) s = inl (one (r.Missing name) s.why (λ b. b))
    go (TooLarge name) s = inl (one (r.TooLarge name) s.why (λ b. b))
    go (ReadFault name) s = inr tt
    go Memory s = inr tt
    go p (c, made, tells) = absurd (none c made)

pub baselines_complete : BaselinesComplete
baselines_complete map before now c o made told writes = go o told writes
  where
    bad : (p : Refusal) → IsUnmade (Some map) p → (¬ IsCutShort (outcome_of p)) → ⊥
    bad p why whole = refused_not_made map p c (record { cause = why; by_files = whole }) made

    go : (o : Outcome) → ToldBaselines (Some map) before now o → o ≢ WriteFault → AreTold o ⊎ IsCutShort o
    go (ProjectBad error) s w = absurd (bad (r.ProjectBad error) s.why (λ b. b))
    go (ScriptBad error) s w = absurd (bad (r.ScriptBad error) s.why (λ b. b))
    go (SourceBad error) s w = absurd (bad (r.SourceBad error) s.why (λ b. b))
    go (Missing name) s w = absurd (bad (r.Missing name) s.why (λ b. b))
    go (TooLarge name) s w = absurd (bad (r.TooLarge name) s.why (λ b. b))
    go (ReadFault name) s w = inr tt
    go Memory s w = inr tt
    go Done s w = inl tt
    go BaselineBad s w = inl tt
    go WriteFault s w = absurd (w refl)
    go p (d, same, tells) w = absurd tells
