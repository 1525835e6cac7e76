-- A demo is refused just where its texts are, and completes where they make a campaign.
use Rattle.mcy_top.proofs.Common.{◌≡◌, ◌≢◌, ◌⊎◌, inl, inr, refl, ap, Some, Prepared, Refusal, RefusedProject, RefusedScript, RefusedSource, IsUnmade, Outcome, Done, ProjectBad, ScriptBad, SourceBad}
use Rattle.mcy_top.proofs.Common.{WriteFault, Memory, made_held, IsCutShort, outcome_of, IsMadeOf, Shown}
use Rattle.mcy_top.specs.ShownLaws.{DemoRefusalsAreExact, DemosComplete}
use Rattle.mcy_top.proofs.Exacting.{refused_not_made, refused_once}

pub refusals_exact : DemoRefusalsAreExact
refusals_exact seed cells written written' before now r o h shown = go o shown
  where
    none : (c : Prepared) → ¬ IsMadeOf seed cells c
    none c made = refused_not_made (made_held seed cells) r c h made

    one : (q : Refusal) → IsUnmade (Some (made_held seed cells)) q → (¬ IsCutShort (outcome_of q)) → outcome_of q ≡ outcome_of r
    one q why whole = ap outcome_of (refused_once (made_held seed cells) q r (record { cause = why; by_files = whole }) h)

    go : (o : Outcome) → Shown seed cells written written' before now o → (o ≡ outcome_of r) ⊎ (o ≡ Memory)
    go Done s = absurd (none s.1.prepared s.1.made)
    go WriteFault s = absurd (none s.1.prepared s.1.made)
    go (ProjectBad error) s = inl (one (RefusedProject error) s.why (λ b. b))
    go (ScriptBad error) s = inl (one (RefusedScript error) s.why (λ b. b))
    go (SourceBad error) s = inl (one (RefusedSource error) s.why (λ b. b))
    go Memory s = inr refl
    go o s = absurd s

pub demos_complete : DemosComplete
demos_complete seed cells written written' before now c o made shown writes = go o shown writes
  where
    bad : (q : Refusal) → IsUnmade (Some (made_held seed cells)) q → (¬ IsCutShort (outcome_of q)) → ⊥
    bad q why whole = refused_not_made (made_held seed cells) q c (record { cause = why; by_files = whole }) made

    go : (o : Outcome) → Shown seed cells written written' before now o → o ≢ WriteFault → (o ≡ Done) ⊎ (o ≡ Memory)
    go Done s w = inl refl
    go WriteFault s w = absurd (w refl)
    go (ProjectBad error) s w = absurd (bad (RefusedProject error) s.why (λ b. b))
    go (ScriptBad error) s w = absurd (bad (RefusedScript error) s.why (λ b. b))
    go (SourceBad error) s w = absurd (bad (RefusedSource error) s.why (λ b. b))
    go Memory s w = inr refl
    go o s w = absurd s
