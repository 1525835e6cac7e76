-- Site texts: `MODE TOP cell NAME PORT BIT FILE:LINE`, or with `reg` in place of `cell`. Where the mode reads a control bit,
-- its number stands behind BIT. One space divides fields.
use Rattle.std.specs.Prelude.{◌≡◌, ℕ, ◌+◌, ◌<◌, ◌≤◌, ◌^◌, Bool, true, false, List, ◌++◌, take, length, Option, None, Some, codes, decimal}
use Rattle.mutation_sites.specs.declared.mode.Mode.{Mode}
use Rattle.mutation_sites.specs.declared.mode.Mode.TheVariants.{Inv, Const0, Const1, Cnot0, Cnot1}
use Rattle.mutation_sites.specs.SiteTexts.{mode_text}
use Rattle.site_texts.specs.declared.choice.Choice.TheVariants as field
use Rattle.site_texts.specs.declared.site.SiteText.{SiteText}
use Rattle.site_texts.specs.declared.site.SiteTextError.{SiteTextError}
use Rattle.site_texts.specs.declared.site.SiteTextError.TheVariants.{Bad, Memory}
use Rattle.site_texts.specs.Choices.{IsWordOf, is_control}
use Rattle.site_texts.specs.Names.{IsName}

abbrev pub reads_control : Mode → Bool
reads_control Inv = false
reads_control Const0 = false
reads_control Const1 = false
reads_control Cnot0 = true
reads_control Cnot1 = true

-- there is a control bit just where the mode reads one
abbrev pub HasControl : Mode → ℕ → Option ℕ → Type 0
HasControl mode bit None = reads_control mode ≡ false
HasControl mode bit (Some control) = (reads_control mode ≡ true) × (is_control bit control ≡ true)

-- what the fields may be
pub record IsSite (site : SiteText) : Type 0 where
  pub top : IsName site.top
  pub name : IsName site.name
  pub port : IsWordOf (field.Port site.is_cell) site.port
  pub bit : site.bit < 128
  pub control : HasControl site.mode site.bit site.control
  pub file : IsName site.file
  pub line_some : 1 ≤ site.line
  pub line_fits : site.line < 2 ^ 32

abbrev pub place_text : Bool → List ℕ
place_text true = codes "cell"
place_text false = codes "reg"

-- The text from each field on, from the last one to the first.
abbrev pub source_text : SiteText → List ℕ
source_text site = site.file ++ (codes ":" ++ decimal site.line)

abbrev pub after_bit : Option ℕ → List ℕ → List ℕ
after_bit None rest = rest
after_bit (Some control) rest = decimal control ++ (codes " " ++ rest)

abbrev pub control_text : SiteText → List ℕ
control_text site = after_bit site.control (source_text site)

abbrev pub bit_text : SiteText → List ℕ
bit_text site = decimal site.bit ++ (codes " " ++ control_text site)

abbrev pub port_text : SiteText → List ℕ
port_text site = site.port ++ (codes " " ++ bit_text site)

abbrev pub name_text : SiteText → List ℕ
name_text site = site.name ++ (codes " " ++ port_text site)

abbrev pub kind_text : SiteText → List ℕ
kind_text site = place_text site.is_cell ++ (codes " " ++ name_text site)

abbrev pub top_text : SiteText → List ℕ
top_text site = site.top ++ (codes " " ++ kind_text site)

abbrev pub site_text : SiteText → List ℕ
site_text site = mode_text site.mode ++ (codes " " ++ top_text site)

-- the text is that of the site
pub record IsSiteText (site : SiteText) (text : List ℕ) : Type 0 where
  pub fields : IsSite site
  pub spelled : text ≡ site_text site

-- some site text begins with these bytes
pub record GoesOn (front : List ℕ) : Type 0 where
  pub site : SiteText
  pub more : List ℕ
  pub is_text : IsSiteText site (front ++ more)

-- The text is no site text, and the byte at the place is the first after which none goes on; one that ends too early is bad at
-- its length.
pub record IsBadAt (text : List ℕ) (at : ℕ) : Type 0 where
  pub within : at ≤ length text
  pub before : GoesOn (take at text)
  pub here : at < length text → GoesOn (take (at + 1) text) → ⊥
  pub none : (site : SiteText) → IsSiteText site text → ⊥

-- why there is no site text
abbrev pub IsFault : List ℕ → SiteTextError → Type 0
IsFault text (Bad at) = IsBadAt text at
IsFault text Memory = Unit {0}
