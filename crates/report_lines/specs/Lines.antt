-- The lines of a report: the form of each by itself.
use Rattle.std.specs.Prelude.{ℕ, ◌==◌, ◌-◌, Bool, false, ◌&&◌, List, [], ◌∷◌, Option, None, Some, bytes_eq, codes, length, map, nat_lt, slice_get, take, if◌then◌else◌}
use Rattle.script_lines.specs.declared.keyword.Keyword.{Keyword}
use Rattle.script_lines.specs.declared.keyword.Keyword.TheVariants as key
use Rattle.script_lines.specs.declared.token.Token.{Token}
use Rattle.script_lines.specs.declared.token.Token.TheVariants as token
use Rattle.script_lines.specs.Parting.{front_len, is_symbol}
use Rattle.tag_lines.specs.Grammar.{before_symbol, is_last}
use Rattle.tag_lines.specs.Lines.{is_nothing}
use Rattle.report_lines.specs.declared.expr.Expr.{Expr}
use Rattle.report_lines.specs.declared.format.Format.{Format}
use Rattle.report_lines.specs.declared.format.Format.TheVariants as format
use Rattle.report_lines.specs.declared.head.Head.{Head}
use Rattle.report_lines.specs.declared.head.Head.TheVariants as head
use Rattle.report_lines.specs.declared.parting.Level.TheVariants as level
use Rattle.report_lines.specs.Formats.{formats_of, value_count}
use Rattle.report_lines.specs.Grammar.{Reader, Share, all_of, expression, inner, is_sign, shares_at}

-- a parenthesis is closed at the end, and a comma stands in it outside inner ones
abbrev pub is_tuple : List Token → Bool
is_tuple [] = false
is_tuple (t ∷ more) =
    let within = take (length more - 1) more in
    is_symbol 40 t && (is_last 41 (slice_get more (length more - 1)) && nat_lt (front_len (is_sign level.Comma) 0 within) (length within))

abbrev pub value_in : Reader → Share → Option Expr
value_in reader share = reader share.tokens

abbrev pub only : Option Expr → Option (List Expr)
only None = None
only (Some x) = Some (x ∷ [])

-- several values in parentheses, or else one; the parentheses round several count among those that are open
unfoldable pub values : List (List ℕ) → ℕ → List Token → Option (List Expr)
values tags room tokens =
    if is_tuple tokens then all_of (value_in (inner tags room)) (shares_at level.Comma (take (length tokens - 1) tokens)) else
    only (expression tags room tokens)

-- formats with as many values as they take
abbrev pub fitting : Option (List Format) → Option (List Expr) → Option Head
fitting (Some formats) (Some values) = if value_count formats == length values then Some (head.Print formats values) else None
fitting formats values = None

unfoldable pub filled : List (List ℕ) → ℕ → List ℕ → List Token → Option Head
filled tags room text tokens = fitting (formats_of text) (values tags room tokens)

-- what stands behind the text of a print: `)` (41), or `%` (37) with values and `)`
unfoldable pub printed : List (List ℕ) → ℕ → List ℕ → List Token → Option Head
printed tags room text [] = None
printed tags room text (t ∷ []) = if is_symbol 41 t then Some (head.Print (map format.Byte text) []) else None
printed tags room text (t ∷ u ∷ more) = if is_symbol 37 t then before_symbol 41 (filled tags room text) (u ∷ more) else None

abbrev pub is_colon : List Token → Bool
is_colon (t ∷ []) = is_symbol 58 t
is_colon other = false

abbrev pub with_expr : (Expr → Head) → Option Expr → Option Head
with_expr make None = None
with_expr make (Some x) = Some (make x)

-- a line that begins with a keyword, of which `more` stands behind it; 58 is the colon
unfoldable pub keyword_head : List (List ℕ) → ℕ → Keyword → List Token → Option Head
keyword_head tags room key.Pass more = if is_nothing more then Some head.Pass else None
keyword_head tags room key.Else more = if is_colon more then Some head.Else else None
keyword_head tags room key.If more = with_expr head.If (before_symbol 58 (expression tags room) more)
keyword_head tags room key.Elif more = with_expr head.Elif (before_symbol 58 (expression tags room) more)
keyword_head tags room keyword more = None

-- `print("text")` or `print("text" % values)`; 40 is the parenthesis
unfoldable pub plain_head : List (List ℕ) → ℕ → List Token → Option Head
plain_head tags room (token.Name name ∷ opened ∷ token.Quoted text ∷ more) =
    if bytes_eq name (codes "print") && is_symbol 40 opened then printed tags room text more else None
plain_head tags room other = None

-- What a line says, where these are the tags, and at most so many parentheses and `not`s may be open on it.
unfoldable pub head_of : List (List ℕ) → ℕ → List Token → Option Head
head_of tags room (token.Keyword keyword ∷ more) = keyword_head tags room keyword more
head_of tags room tokens = plain_head tags room tokens
