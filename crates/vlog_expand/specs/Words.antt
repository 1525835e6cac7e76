-- What a token is to the directives (IEEE 1364-2005, 19).
use Rattle.std.specs.Prelude.{ℕ, Bool, false, true, ◌&&◌, List, [], ◌∷◌, codes, bytes_eq, if◌then◌else◌, drop}
use Rattle.std.specs.List.{list_any}
use Rattle.vlog_token.specs.declared.token.Token.{Token}
use Rattle.vlog_token.specs.declared.token.TokenKind.{TokenKind}
use Rattle.vlog_token.specs.declared.token.TokenKind.TheVariants.{Name, Directive}
use Rattle.vlog_expand.specs.declared.word.Word.{Word}
use Rattle.vlog_expand.specs.declared.word.Word.TheVariants.{Plain, Use, Define, Undef, Ifdef, Ifndef, Else, Elsif, Endif, Dropped, Include, Refused}

-- the directives that are refused by their names, beside `elsif`
abbrev pub refused_names : List (List ℕ)
refused_names = codes "begin_keywords" ∷ codes "celldefine" ∷ codes "end_keywords" ∷ codes "endcelldefine" ∷ codes "line" ∷ codes "nounconnected_drive" ∷ codes "pragma" ∷ codes "resetall" ∷ codes "unconnected_drive" ∷ []

abbrev pub is_refused_name : List ℕ → Bool
is_refused_name name = list_any (λ word. bytes_eq word name) refused_names

-- the directive of this name, or the use of a macro of this name
unfoldable pub named_word : List ℕ → Word
named_word name =
    if bytes_eq name (codes "define") then Define else
    (if bytes_eq name (codes "undef") then Undef else
    (if bytes_eq name (codes "ifdef") then Ifdef else
    (if bytes_eq name (codes "ifndef") then Ifndef else
    (if bytes_eq name (codes "else") then Else else
    (if bytes_eq name (codes "elsif") then Elsif else
    (if bytes_eq name (codes "endif") then Endif else
    (if bytes_eq name (codes "timescale") then Dropped else
    (if bytes_eq name (codes "default_nettype") then Dropped else
    (if bytes_eq name (codes "include") then Include else
    (if is_refused_name name then Refused else Use))))))))))

-- the name of a directive or a use stands behind its first byte
abbrev pub name_of : Token → List ℕ
name_of t = drop 1 t.text.now

abbrev pub is_directive : TokenKind → Bool
is_directive Directive = true
is_directive _ = false

abbrev pub is_name : TokenKind → Bool
is_name Name = true
is_name _ = false

-- what the token is to the directives
unfoldable pub word_of : Token → Word
word_of t = if is_directive t.kind then named_word (name_of t) else Plain

abbrev pub is_use : Word → Bool
is_use Use = true
is_use _ = false

-- what is given, and no directive that is carried out
abbrev pub is_shown : Word → Bool
is_shown Plain = true
is_shown Use = true
is_shown _ = false

-- The name of a macro that is defined. A directive's name is none (IEEE 1364-2005, 19.3.1).
unfoldable pub is_macro_name : Token → Bool
is_macro_name t = is_name t.kind && is_use (named_word t.text.now)
