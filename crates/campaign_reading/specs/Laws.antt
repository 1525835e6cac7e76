-- The law of files: they are refused for one cause, or make a campaign.
use Rattle.std.specs.Prelude.{◌≡◌, Option, Some, ⊤}
use Rattle.mcy_outside.specs.Files.{Held}
use Rattle.campaign_plan.specs.declared.prepared.Prepared.{Prepared}
use Rattle.campaign_reading.specs.declared.refusal.Refusal.{Refusal}
use Rattle.campaign_reading.specs.declared.refusal.Refusal.TheVariants.{ReadFault, Memory}
use Rattle.campaign_reading.specs.Files.{IsMade}
use Rattle.campaign_reading.specs.Reads.{IsUnmade}
use Rattle.campaign_reading.specs.Readable.{IsReadable}

-- the files decide it: it is no fault of reading, and no want of memory
abbrev pub IsByFiles : Refusal → Type 0
IsByFiles (ReadFault name) = ⊥
IsByFiles Memory = ⊥
IsByFiles refusal = ⊤

-- What the files hold is refused for one cause,
abbrev pub FilesHaveOneCause : Type 0
FilesHaveOneCause = (map : Held) (refusal other : Refusal) → IsByFiles refusal → IsByFiles other → IsUnmade (Some map) refusal → IsUnmade (Some map) other → refusal ≡ other

-- and where it is refused it makes no campaign.
abbrev pub RefusedFilesMakeNone : Type 0
RefusedFilesMakeNone = (map : Held) (refusal : Refusal) (c : Prepared) → IsByFiles refusal → IsUnmade (Some map) refusal → ¬ IsMade (Some map) c

-- What is accepted is not refused.
abbrev pub ReadableFilesAreTaken : Type 0
ReadableFilesAreTaken = (held : Option Held) (r : IsReadable held) (refusal : Refusal) → IsByFiles refusal → ¬ IsUnmade (Some r.map) refusal
