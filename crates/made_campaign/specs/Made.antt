-- What the texts of a made project are read as.
use Rattle.std.specs.Prelude.{ℕ, ⊤}
use Rattle.mcy_outside.specs.Files.{Held, look_up}
use Rattle.campaign_reading.specs.declared.refusal.Refusal.{Refusal}
use Rattle.campaign_reading.specs.declared.refusal.Refusal.TheVariants.{ProjectBad, ScriptBad, SourceBad, Memory}
use Rattle.made_project.specs.Projects.{made_files}

-- the files of the project, by their names
unfoldable pub made_held : (seed cells : ℕ) → Held
made_held seed cells = look_up (made_files seed cells)

-- the limit of a test of its campaign by equality, in lemmas
abbrev pub made_limit : ℕ
made_limit = 20000

-- the texts themselves are refused, the project, a script or the sources; or there was no memory
abbrev pub IsOfTexts : Refusal → Type 0
IsOfTexts (ProjectBad error) = ⊤
IsOfTexts (ScriptBad error) = ⊤
IsOfTexts (SourceBad error) = ⊤
IsOfTexts Memory = ⊤
IsOfTexts refusal = ⊥
