-- The files of a design, read one after the other: their tokens, what their directives give, and their modules.
use Rattle.std.specs.Prelude.{◌≡◌, ℕ, ◌+◌, List, [], ◌∷◌, ◌++◌, map}
use Rattle.std.specs.List.{All}
use Rattle.std.specs.Str.{IsUtf8}
use Rattle.mcy_base.specs.declared.file.SourceFile.{SourceFile}
use Rattle.vlog_token.specs.declared.token.Token.{Token}
use Rattle.vlog_token.specs.Places.{place_after}
use Rattle.vlog_token.specs.Sources.{AreTokensOf, SeenToken}
use Rattle.vlog_expand.specs.Uses.{Outcome, Gives}
use Rattle.vlog_expand.specs.Files.{Comes, start}
use Rattle.vlog_syntax.specs.declared.module.Module.{Module}
use Rattle.vlog_parse.specs.Parsing.{AreMeant, AreParsed}
use Rattle.seen_tokens.specs.Bare.{token_of}

-- how many tokens and uses of macros all files together may have (docs/PROFILE.md)
abbrev pub max_tokens : ℕ
max_tokens = 2000000

-- The bytes of the file with this number are tokens, and under the limit its directives come to this.
pub record ComesTo (number : ℕ) (bytes : List ℕ) (limit : ℕ) (outcome : Outcome) : Type 0 where
  pub tokens : List SeenToken
  pub are : AreTokensOf number bytes tokens
  pub comes : Comes (place_after number bytes) (start (map token_of tokens)) limit outcome

-- a file gives these tokens, and so much is left of the limit
pub record GivesFirst (number : ℕ) (bytes : List ℕ) (limit : ℕ) (given : List (List Token)) : Type 0 where
  pub tokens : List Token
  pub left : ℕ
  pub others : List (List Token)
  pub comes : ComesTo number bytes limit (Gives tokens left)
  pub are : given ≡ tokens ∷ others

-- Files, numbered from this number on, give these tokens, and each leaves its limit to the next.
abbrev pub AreGiven : ℕ → List SourceFile → ℕ → List (List Token) → Type 0
AreGiven number [] limit given = given ≡ []
AreGiven number (file ∷ more) limit given = (first : GivesFirst number file.bytes limit given) × AreGiven (number + 1) more first.left first.others

-- These modules are what the tokens of the files mean, one file after the other.
abbrev pub AllMeant : List (List Token) → List Module → Type 0
AllMeant [] ms = ms ≡ []
AllMeant (tokens ∷ more) ms = (first : List Module) × (others : List Module) × AreMeant tokens first × AllMeant more others × (ms ≡ first ++ others)

-- These modules are what the files mean, whatever is refused besides.
pub record AreMeantBy (files : List SourceFile) (ms : List Module) : Type 0 where
  pub texts : All (λ file. IsUtf8 file.bytes) files
  pub given : List (List Token)
  pub gives : AreGiven 0 files max_tokens given
  pub modules : AllMeant given ms

-- The tokens of each file are modules, and these are all of them in order.
abbrev pub AreModules : List (List Token) → List Module → Type 0
AreModules [] ms = ms ≡ []
AreModules (tokens ∷ more) ms = (first : List Module) × (others : List Module) × AreParsed tokens first × AreModules more others × (ms ≡ first ++ others)

-- The files are these modules.
pub record AreRead (files : List SourceFile) (ms : List Module) : Type 0 where
  pub texts : All (λ file. IsUtf8 file.bytes) files
  pub given : List (List Token)
  pub gives : AreGiven 0 files max_tokens given
  pub modules : AreModules given ms
