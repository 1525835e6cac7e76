-- The class of each token. A `(` and a `*` without a gap begin an attribute, but not behind `@`, and a `*` and a `)`
-- without a gap end it (IEEE 1364-2005, 3.8).
use Rattle.std.specs.Prelude.{ℕ, ◌+◌, Bool, true, false, ◌&&◌, ◌==◌, if◌then◌else◌, List, [], ◌∷◌}
use Rattle.mcy_base.specs.declared.span.Span.{Span}
use Rattle.vlog_token.specs.declared.token.Token.{Token}
use Rattle.vlog_token.specs.declared.token.TokenKind.{TokenKind}
use Rattle.vlog_token.specs.declared.token.TokenKind.TheVariants as k
use Rattle.vlog_grammar.specs.declared.class.Class.{Class}
use Rattle.vlog_grammar.specs.declared.class.Class.TheVariants as c
use Rattle.vlog_grammar.specs.declared.step.Token.{Token as Classed}
use Rattle.vlog_parse.specs.declared.classes.Context.{Context}
use Rattle.vlog_parse.specs.declared.classes.Context.TheVariants as x
use Rattle.vlog_parse.specs.Words.{word_class, symbol_class, system_class}

-- the second place is the one behind the first
abbrev pub is_next : Span → Span → Bool
is_next s t = (t.file == s.file) && ((t.line == s.line) && (t.col == s.col + 1))

abbrev kind_class : TokenKind → List ℕ → Class
kind_class k.Name text = word_class text
kind_class k.Escaped text = c.Name
kind_class k.System text = system_class text
kind_class k.Directive text = c.Other
kind_class k.Number text = c.Number
kind_class k.String text = c.String
kind_class k.Symbol text = symbol_class text

-- the class of a token outside of attributes
unfoldable pub token_class : Token → Class
token_class t = kind_class t.kind t.text.now

-- where the token behind one of this class stands
unfoldable pub behind : Context → Class → Span → Context
behind context c.At s = x.At
behind x.At c.OpenParen s = x.Outside
behind context c.OpenParen s = x.Open s
behind context _ s = x.Outside

-- where the token behind one of an attribute stands
unfoldable pub behind_text : Class → Span → Context
behind_text c.Star s = x.Star s
behind_text _ s = x.Attribute

-- a `(` at s, and the token behind it
unfoldable pub is_begun : Context → Class → Span → Bool
is_begun (x.Open s) c.Star t = is_next s t
is_begun _ _ t = false

-- a `*` at s in an attribute, and the token behind it
unfoldable pub is_ended : Context → Class → Span → Bool
is_ended (x.Star s) c.CloseParen t = is_next s t
is_ended _ _ t = false

unfoldable pub is_inside : Context → Bool
is_inside x.Attribute = true
is_inside (x.Star s) = true
is_inside _ = false

-- the class of a token, and where the token behind it stands
abbrev pub classed : Context → Token → Class × Context
classed context t =
    let class = token_class t in
    if is_begun context class t.span then (c.AttributeStar, x.Attribute)
    else (if is_ended context class t.span then (c.AttributeEnd, x.Outside)
    else (if is_inside context then (c.AttributeText, behind_text class t.span)
    else (class, behind context class t.span)))

-- the tokens from number n on, as the grammar sees them
abbrev pub classes_from : ℕ → Context → List Token → List Classed
classes_from n context [] = []
classes_from n context (t ∷ ts) = record { class = (classed context t).0; at = n } ∷ classes_from (n + 1) (classed context t).1 ts

abbrev pub classes : List Token → List Classed
classes ts = classes_from 0 x.Outside ts
