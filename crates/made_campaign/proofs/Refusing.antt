-- The texts of a made project are there, and none is too large: so only what they say is refused.
use Rattle.made_campaign.proofs.Common.{◌≡◌, inl, inr, arith, false, ℕ, ◌^◌, ◌<◌, ◌≤◌, List, [], ◌∷◌, length, Option, None, Some, Result, Ok, Err, refl, sym, ap, subst, ◌∙◌, codes, IfErr, Gives, Held}
use Rattle.made_campaign.proofs.Common.{IsLarge, look_up, Project, IsProject, Prepared, config_name, Exceeds, IsMade, Lacks, HasReadCause, IsNext, IsRead, IsUnmade, design_text, bench_text}
use Rattle.made_campaign.proofs.Common.{config_text, made_files, IsOfTexts, made_held, made_limit}
use Rattle.mcy_base.specs.Causes.{Rose}
use Rattle.mcy_base.specs.declared.file.SourceFile.{SourceFile}
use Rattle.campaign_choice.specs.Limits.{max_bytes}
use Rattle.campaign_reading.specs.declared.refusal.Refusal.{Refusal}
use Rattle.campaign_reading.specs.declared.refusal.Refusal.TheVariants.{ProjectBad, ScriptBad, SourceBad, Missing, TooLarge, ReadFault, Memory}
use Rattle.made_campaign.proofs.Sections.{project_made, SaysMade}
use Rattle.made_campaign.proofs.Sizes.{bench_short, config_short, design_short}

config_held : (seed cells : ℕ) → made_held seed cells config_name ≡ Some (config_text seed)
unfolding made_held
config_held seed cells = refl

design_held : (seed cells : ℕ) → made_held seed cells (codes "d.v") ≡ Some (design_text seed cells)
unfolding made_held
design_held seed cells = refl

bench_held : (seed cells : ℕ) → made_held seed cells (codes "d_tb.v") ≡ Some bench_text
unfolding made_held
bench_held seed cells = refl

-- files that are those of the project hold what it has
pub held_of : (seed cells : ℕ) (files : List SourceFile) → files ≡ made_files seed cells → Some (look_up files) ≡ Some (made_held seed cells)
unfolding made_held
held_of seed cells files is = ap (λ (fs : List SourceFile). Some (look_up fs)) is

-- there is such a text, and it is not too large
abbrev IsThere : Held → List ℕ → Type 0
IsThere held name = (bytes : List ℕ) × Gives (held name) max_bytes bytes

module _ (seed cells : ℕ) (small : seed < 2 ^ 64) (few : cells ≤ 400) where
  config_there : IsThere (made_held seed cells) config_name
  config_there = (config_text seed, record { same = config_held seed cells; few = config_short seed small })

  -- the project that is read is the made one
  pub read_project : (config : List ℕ) (project : Project) → Gives (made_held seed cells config_name) max_bytes config → IsProject config project → SaysMade project
  read_project config project got says =
      let both : Some config ≡ Some (config_text seed) = sym got.same ∙ config_held seed cells in
      let same : config ≡ config_text seed = cc in
      project_made seed project small (subst (λ (text : List ℕ). IsProject text project) same says)

  file_there : (name : List ℕ) → IsNext (Some (made_held seed cells)) (codes "d.v" ∷ codes "d_tb.v" ∷ []) name → IsThere (made_held seed cells) name
  file_there name (inl is) = subst (IsThere (made_held seed cells)) (sym is) (design_text seed cells, record { same = design_held seed cells; few = design_short seed cells few })
  file_there name (inr (first, inl is)) = subst (IsThere (made_held seed cells)) (sym is) (bench_text, record { same = bench_held seed cells; few = bench_short })
  file_there name (inr (first, inr (second, none))) = absurd none

  there : (name : List ℕ) → IsRead (Some (made_held seed cells)) name → IsThere (made_held seed cells) name
  there name (inl is) = subst (IsThere (made_held seed cells)) (sym is) config_there
  there name (inr (project, has, next)) =
      file_there name (subst (λ (names : List (List ℕ)). IsNext (Some (made_held seed cells)) names name) (read_project has.config project has.got has.says).files next)

  not_lacking : (name : List ℕ) → IsThere (made_held seed cells) name → ¬ Lacks (Some (made_held seed cells)) name
  not_lacking name here lacks = let never : Some here.0 ≡ None = sym here.1.same ∙ lacks in cc

  not_large : (name : List ℕ) → IsThere (made_held seed cells) name → ¬ Exceeds (Some (made_held seed cells)) name
  not_large name here exceeds =
      let more : IsLarge (Some here.0) max_bytes = subst (λ (o : Option (List ℕ)). IsLarge o max_bytes) here.1.same exceeds in
      let most : length here.0 ≤ max_bytes = here.1.few in
      absurd (omega (arith, more, most))

  pub of_texts : (refusal : Refusal) → IsUnmade (Some (made_held seed cells)) refusal → HasReadCause 0 0 refusal → IsOfTexts refusal
  of_texts (ProjectBad error) why cause = tt
  of_texts (ScriptBad error) why cause = tt
  of_texts (SourceBad error) why cause = tt
  of_texts Memory why cause = tt
  of_texts (Missing name) why cause = absurd (not_lacking name (there name why.0) why.1)
  of_texts (TooLarge name) why cause = absurd (not_large name (there name why.0) why.1)
  of_texts (ReadFault name) why cause = let rose : Rose 0 0 = cause in absurd (omega (arith, rose))

  pub texts_of : (result : Result Prepared Refusal) → IfErr result (IsUnmade (Some (made_held seed cells))) → IfErr result (HasReadCause 0 0) → IfErr result IsOfTexts
  texts_of (Ok c) why cause = tt
  texts_of (Err refusal) why cause = of_texts refusal why cause

  -- the limits of a made campaign
  pub fixed_made : (c : Prepared) → IsMade (Some (made_held seed cells)) c → c.auto_cycles ≡ false
  fixed_made c made = made.made.auto ∙ (read_project made.config made.made.project made.got_config made.made.says).auto

  pub limit_made : (c : Prepared) → IsMade (Some (made_held seed cells)) c → c.campaign.conflicts ≡ made_limit
  limit_made c made = ap (λ k. k.conflicts) made.made.campaign ∙ (read_project made.config made.made.project made.got_config made.made.says).conflicts
