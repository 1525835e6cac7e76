-- What the files hold, where they tell it, and the campaign that it makes.
use Rattle.std.specs.Prelude.{ℕ, List, codes, ⊤, Option, None, Some, ◌≡◌}
use Rattle.std.specs.List.{All}
use Rattle.mcy_base.specs.declared.file.SourceFile.{SourceFile}
use Rattle.mcy_outside.specs.Files.{Held, Gives, IsLarge}
use Rattle.campaign_choice.specs.Limits.{max_bytes}
use Rattle.campaign_plan.specs.declared.prepared.Prepared.{Prepared}
use Rattle.campaign_plan.specs.Campaigns.{IsPrepared}

abbrev pub config_name : List ℕ
config_name = codes "config.mcy"

-- these bytes are held under the name
abbrev pub Got : Option Held → List ℕ → List ℕ → Type 0
Got None name bytes = ⊤
Got (Some held) name bytes = Gives (held name) max_bytes bytes

abbrev pub Lacks : Option Held → List ℕ → Type 0
Lacks None name = ⊤
Lacks (Some held) name = held name ≡ None

abbrev pub Exceeds : Option Held → List ℕ → Type 0
Exceeds None name = ⊤
Exceeds (Some held) name = IsLarge (held name) max_bytes

-- each file is held as it is here
abbrev pub GotAll : Option Held → List SourceFile → Type 0
GotAll held files = All (λ file. Got held file.name file.bytes) files

-- the campaign of what the files hold
pub record IsMade (held : Option Held) (c : Prepared) : Type 0 where
  pub config : List ℕ
  pub files : List SourceFile
  pub got_config : Got held config_name config
  pub got_files : GotAll held files
  pub made : IsPrepared config files c
