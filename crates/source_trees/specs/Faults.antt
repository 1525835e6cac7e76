-- Why files are no modules: the first file that is no text, else the first fault of tokens and directives, else that of trees.
use Rattle.std.specs.Prelude.{◌≡◌, ◌≢◌, ◌⊎◌, ℕ, ◌+◌, List, [], ◌∷◌}
use Rattle.std.specs.List.{All}
use Rattle.std.specs.Str.{IsUtf8, IsValidUpTo}
use Rattle.mcy_base.specs.declared.file.SourceFile.{SourceFile}
use Rattle.vlog_token.specs.declared.token.Token.{Token}
use Rattle.vlog_token.specs.declared.token.TokenError.{TokenError}
use Rattle.vlog_token.specs.declared.token.TokenError.TheVariants as t
use Rattle.vlog_token.specs.Places.{place_after}
use Rattle.vlog_token.specs.Sources.{IsRefusal}
use Rattle.vlog_expand.specs.declared.error.ParseError.{ParseError}
use Rattle.vlog_expand.specs.declared.error.ParseError.TheVariants as p
use Rattle.vlog_expand.specs.Uses.{Gives, Refuses}
use Rattle.vlog_syntax.specs.declared.module.Module.{Module}
use Rattle.vlog_parse.specs.Parsing.{AreParsed, IsFault}
use Rattle.source_trees.specs.declared.error.ReadError.{ReadError}
use Rattle.source_trees.specs.declared.error.ReadError.TheVariants.{NotUtf8, Token as TokenFault, Parse, Memory}
use Rattle.source_trees.specs.Files.{max_tokens, AreGiven, ComesTo}

-- the bytes are no UTF-8 behind so many
abbrev pub IsTextFault : ℕ → List ℕ → ReadError → Type 0
IsTextFault number bytes e = (len : ℕ) × IsValidUpTo bytes len × (e ≡ NotUtf8 number len)

-- the first file that is no text, numbered from this number on
abbrev pub IsNoText : ℕ → List SourceFile → ReadError → Type 0
IsNoText number [] e = ⊥
IsNoText number (file ∷ more) e = IsTextFault number file.bytes e ⊎ (IsUtf8 file.bytes × IsNoText (number + 1) more e)

-- a file has no tokens, or its directives are refused under the limit
abbrev pub IsFileFault : ℕ → List ℕ → ℕ → ReadError → Type 0
IsFileFault number bytes limit e =
    ((x : TokenError) × (x ≢ t.Memory) × IsRefusal number bytes x × (e ≡ TokenFault x))
    ⊎ ((x : ParseError) × (x ≢ p.Memory) × ComesTo number bytes limit (Refuses x) × (e ≡ Parse x))

-- the first such file
abbrev pub IsUngiven : ℕ → List SourceFile → ℕ → ReadError → Type 0
IsUngiven number [] limit e = ⊥
IsUngiven number (file ∷ more) limit e =
    IsFileFault number file.bytes limit e
    ⊎ ((tokens : List Token) × (left : ℕ) × ComesTo number file.bytes limit (Gives tokens left) × IsUngiven (number + 1) more left e)

-- the tokens of a file are no modules
abbrev pub IsTreeFault : ℕ → List ℕ → List Token → ReadError → Type 0
IsTreeFault number bytes tokens e = (x : ParseError) × (x ≢ p.Memory) × IsFault tokens (place_after number bytes) x × (e ≡ Parse x)

-- the first such file
abbrev pub IsUnparsed : ℕ → List SourceFile → List (List Token) → ReadError → Type 0
IsUnparsed number (file ∷ more) (tokens ∷ others) e =
    IsTreeFault number file.bytes tokens e ⊎ ((ms : List Module) × AreParsed tokens ms × IsUnparsed (number + 1) more others e)
IsUnparsed number files given e = ⊥

-- all files are texts, and give these tokens
pub record AreTokens (files : List SourceFile) (given : List (List Token)) : Type 0 where
  pub texts : All (λ file. IsUtf8 file.bytes) files
  pub gives : AreGiven 0 files max_tokens given

-- why the files are not read
abbrev pub IsUnread : List SourceFile → ReadError → Type 0
IsUnread files e =
    (e ≡ Memory)
    ⊎ (IsNoText 0 files e
    ⊎ ((All (λ file. IsUtf8 file.bytes) files × IsUngiven 0 files max_tokens e)
    ⊎ ((given : List (List Token)) × AreTokens files given × IsUnparsed 0 files given e)))

-- For proofs alone.

-- an error as one of reading: want of memory is the same in all
abbrev pub of_token : TokenError → ReadError
of_token t.Memory = Memory
of_token e = TokenFault e

abbrev pub of_parse : ParseError → ReadError
of_parse p.Memory = Memory
of_parse e = Parse e
