-- The lines of a tag script: the form of each by itself, and what it names.
use Rattle.std.specs.Prelude.{ℕ, Bool, true, false, not, ◌&&◌, List, [], ◌∷◌, Option, None, Some, codes, fold, if◌then◌else◌}
use Rattle.script_lines.specs.declared.keyword.Keyword.{Keyword}
use Rattle.script_lines.specs.declared.keyword.Keyword.TheVariants as key
use Rattle.script_lines.specs.declared.token.Token.{Token}
use Rattle.script_lines.specs.declared.token.Token.TheVariants as token
use Rattle.tag_lines.specs.declared.expr.Expr.{Expr}
use Rattle.tag_lines.specs.declared.head.Head.{Head}
use Rattle.tag_lines.specs.declared.head.Head.TheVariants as head
use Rattle.project_lines.specs.Paths.{with_name}
use Rattle.script_lines.specs.Parting.{is_symbol}
use Rattle.tag_lines.specs.Grammar.{Reader, argument_of, before_symbol, is_function, place_of}

abbrev pub with_expr : (Expr → Head) → Option Expr → Option Head
with_expr make None = None
with_expr make (Some x) = Some (make x)

abbrev pub is_nothing : List Token → Bool
is_nothing [] = true
is_nothing (t ∷ more) = false

abbrev pub is_colon : List Token → Bool
is_colon (t ∷ []) = is_symbol 58 t
is_colon other = false

-- a line that begins with a keyword, of which `more` stands behind it; 58 is the colon
unfoldable pub keyword_head : Reader → Keyword → List Token → Option Head
keyword_head reader key.Pass more = if is_nothing more then Some head.Pass else None
keyword_head reader key.Else more = if is_colon more then Some head.Else else None
keyword_head reader key.Assert more = with_expr head.Assert (reader more)
keyword_head reader key.If more = with_expr head.If (before_symbol 58 reader more)
keyword_head reader key.Elif more = with_expr head.Elif (before_symbol 58 reader more)
keyword_head reader keyword more = None

-- `name = E`; 61 is the sign
unfoldable pub assigned : List (List ℕ) → Reader → List Token → Option Head
assigned names reader (token.Name name ∷ sign ∷ more) =
    if is_symbol 61 sign && not (is_function name) then with_expr (head.Assign (place_of name names)) (reader more) else None
assigned names reader other = None

-- `tag("NAME")`, or an assignment
unfoldable pub plain_head : List (List ℕ) → List (List ℕ) → Reader → List Token → Option Head
plain_head tags names reader tokens = elim (argument_of (codes "tag") tokens) [
  | None ↦ assigned names reader tokens
  | Some name ↦ Some (head.Tag (place_of name tags))
]

-- What a line says, where these are the tags, these the names, and `reader` reads its expressions.
unfoldable pub head_of : List (List ℕ) → List (List ℕ) → Reader → List Token → Option Head
head_of tags names reader (token.Keyword keyword ∷ more) = keyword_head reader keyword more
head_of tags names reader tokens = plain_head tags names reader tokens

-- The names of a line.

-- the names with that of a token, each once
abbrev pub with_token : List (List ℕ) → Token → List (List ℕ)
with_token names (token.Name name) = if is_function name then names else with_name names name
with_token names other = names

-- the names and those of a line, each once
unfoldable pub names_behind : List (List ℕ) → List Token → List (List ℕ)
names_behind names tokens = fold with_token names tokens
