-- What may stand in a site text from a field on, where something is known of the fields before it.
use Rattle.std.specs.Prelude.{◌≡◌, ℕ, ◌+◌, ◌^◌, ◌<◌, ◌≤◌, Bool, List, ◌++◌, take, length, Option, None, Some, codes, decimal, slice_index}
use Rattle.mutation_sites.specs.declared.mode.Mode.{Mode}
use Rattle.site_texts.specs.declared.parts.Bits.{Bits}
use Rattle.site_texts.specs.declared.parts.PlaceText.{PlaceText}
use Rattle.site_texts.specs.declared.parts.Parts.{Parts}
use Rattle.site_texts.specs.declared.source.Source.{Source}
use Rattle.site_texts.specs.declared.site.SiteText.{SiteText}
use Rattle.site_texts.specs.SiteTexts.{IsSite}

-- For proofs alone.

-- the text is this part of a site's text, of a site of which this is known
pub record IsRest (Known : SiteText → Type 0) (part : SiteText → List ℕ) (text : List ℕ) : Type 0 where
  pub site : SiteText
  pub fields : IsSite site
  pub known : Known site
  pub spelled : text ≡ part site

-- the text is no such part, and the byte at the place is the first after which none goes on
pub record IsStuck (Known : SiteText → Type 0) (part : SiteText → List ℕ) (text : List ℕ) (at : ℕ) : Type 0 where
  pub within : at ≤ length text
  pub more : List ℕ
  pub before : IsRest Known part (take at text ++ more)
  pub here : (other : List ℕ) → at < length text → IsRest Known part (take (at + 1) text ++ other) → ⊥
  pub none : IsRest Known part text → ⊥

-- what is known of a site
abbrev pub IsAny : SiteText → Type 0
IsAny site = Unit {0}

abbrev pub HasMode : Mode → SiteText → Type 0
HasMode mode site = site.mode ≡ mode

abbrev pub HasPlace : Mode → Bool → SiteText → Type 0
HasPlace mode is_cell site = (site.mode ≡ mode) × (site.is_cell ≡ is_cell)

abbrev pub HasBit : Mode → ℕ → SiteText → Type 0
HasBit mode bit site = (site.mode ≡ mode) × (site.bit ≡ bit)

-- what was read are fields of the site
abbrev pub AreOfSource : Source → SiteText → Type 0
AreOfSource source site = (source.file.now ≡ site.file) × (source.line ≡ site.line)

-- the text is a file's name and the number of a line, divided by a colon
pub record IsSource (text : List ℕ) (source : Source) : Type 0 where
  pub some : 0 < length source.file.now
  pub first : 1 ≤ source.line
  pub fits : source.line < 2 ^ 32
  pub spelled : text ≡ source.file.now ++ (codes ":" ++ decimal source.line)

abbrev pub IsNoSource : List ℕ → Type 0
IsNoSource text = (file : List ℕ) (line : ℕ) → 0 < length file → 1 ≤ line → line < 2 ^ 32 → text ≡ file ++ (codes ":" ++ decimal line) → ⊥

-- the text is no number of a line
abbrev pub IsNoLine : List ℕ → Type 0
IsNoLine text = (line : ℕ) → 1 ≤ line → line < 2 ^ 32 → text ≡ decimal line → ⊥

-- the place of the last colon
abbrev pub IsLastColon : List ℕ → Option ℕ → Type 0
IsLastColon text None = (k : ℕ) → k < length text → slice_index text k ≡ 58 → ⊥
IsLastColon text (Some at) = (at < length text) × (slice_index text at ≡ 58) × ((k : ℕ) → at < k → k < length text → slice_index text k ≡ 58 → ⊥)

abbrev pub AreOfControl : Option ℕ → Source → SiteText → Type 0
AreOfControl control source site = (control ≡ site.control) × AreOfSource source site

abbrev pub AreOfBits : Bits → SiteText → Type 0
AreOfBits bits site = (bits.bit ≡ site.bit) × AreOfControl bits.control bits.source site

abbrev pub AreOfPort : List ℕ → Bits → SiteText → Type 0
AreOfPort port bits site = (port ≡ site.port) × AreOfBits bits site

abbrev pub AreOfPlace : PlaceText → SiteText → Type 0
AreOfPlace place site = (place.is_cell ≡ site.is_cell) × (place.name.now ≡ site.name) × AreOfPort place.port.now place.bits site

abbrev pub AreOf : Parts → SiteText → Type 0
AreOf parts site = (parts.mode ≡ site.mode) × (parts.top.now ≡ site.top) × AreOfPlace parts.place site

-- such a part was read, and these are its fields
pub record IsPart (Known : SiteText → Type 0) (part : SiteText → List ℕ) (Fields : SiteText → Type 0) (text : List ℕ) : Type 0 where
  pub rest : IsRest Known part text
  pub fields : Fields rest.site
