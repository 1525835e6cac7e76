-- The texts of each kind of token (IEEE 1364-2005, 3.1 to 3.9).
use Rattle.std.specs.Prelude.{◌≡◌, ℕ, ◌≤◌, true, List, [], ◌∷◌, ◌++◌, length}
use Rattle.std.specs.List.{AllByRecursion, concat}
use Rattle.vlog_token.specs.declared.token.TokenKind.{TokenKind}
use Rattle.vlog_token.specs.declared.token.TokenKind.TheVariants.{Name, Escaped, System, Directive, Number, String, Symbol}
use Rattle.vlog_token.specs.Bytes.{AllAre, is_name_start, is_name_part, is_solid, is_plain, is_escape}
use Rattle.vlog_token.specs.Symbols.{IsSymbol}
use Rattle.vlog_token.specs.Shapes.{IsShape}

-- this byte, and then a text of such a form
abbrev pub Behind : ℕ → (List ℕ → Type 0) → List ℕ → Type 0
Behind first P [] = ⊥
Behind first P (c ∷ cs) = (c ≡ first) × P cs

abbrev pub IsName : List ℕ → Type 0
IsName [] = ⊥
IsName (c ∷ cs) = (is_name_start c ≡ true) × AllAre is_name_part cs

-- bytes other than blanks, at least one
abbrev pub IsSolid : List ℕ → Type 0
IsSolid [] = ⊥
IsSolid (c ∷ cs) = AllAre is_solid (c ∷ cs)

-- a byte that stands for itself, or an escape
abbrev pub IsStringItem : List ℕ → Type 0
IsStringItem (c ∷ []) = is_plain c ≡ true
IsStringItem (c ∷ e ∷ []) = (c ≡ 92) × (is_escape e ≡ true)
IsStringItem _ = ⊥

-- items, and the closing `"`
pub record IsQuoted (text : List ℕ) : Type 0 where
  pub items : List (List ℕ)
  pub are_items : AllByRecursion IsStringItem items
  pub parts : text ≡ concat items ++ 34 ∷ []

-- The text is one of this kind. Of numbers this is the shape alone; `number_of` says which have a value.
abbrev pub Fits : TokenKind → List ℕ → Type 0
Fits Name text = IsName text
Fits Escaped text = Behind 92 IsSolid text
Fits System text = Behind 36 IsName text
Fits Directive text = Behind 96 IsName text
Fits Number text = IsShape text
Fits String text = Behind 34 IsQuoted text
Fits Symbol text = IsSymbol text

-- no longer front of the whole fits any kind
abbrev pub IsLongest : List ℕ → List ℕ → Type 0
IsLongest text rest =
    (kind : TokenKind) (longer more : List ℕ) → Fits kind longer → text ++ rest ≡ longer ++ more → length longer ≤ length text
