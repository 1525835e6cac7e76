-- The tokens of a line (The Python Language Reference, 2): each is the longest that fits, with blanks between them where wanted.
-- Texts have no escapes, and every byte that begins no other token is one by itself.
use Rattle.std.specs.Prelude.{ℕ, zero, suc, ◌==◌, ◌+◌, Bool, true, false, ◌||◌, List, [], ◌∷◌, Option, None, Some, bytes_eq, codes, drop, length, option_map, take, if◌then◌else◌}
use Rattle.std.specs.List.{prefix_len}
use Rattle.script_lines.specs.declared.class.Class.{Class}
use Rattle.script_lines.specs.declared.class.Class.TheVariants as class
use Rattle.script_lines.specs.declared.keyword.Keyword.{Keyword}
use Rattle.script_lines.specs.declared.keyword.Keyword.TheVariants as key
use Rattle.script_lines.specs.declared.token.Cut.{Cut}
use Rattle.script_lines.specs.declared.token.Token.{Token}
use Rattle.script_lines.specs.declared.token.Token.TheVariants as token
use Rattle.project_lines.specs.Lines.{from_word}
use Rattle.project_lines.specs.Numbers.{is_digit}
use Rattle.project_lines.specs.Words.{is_name_start}
use Rattle.script_lines.specs.Classes.{is_in}

unfoldable pub connective : List ℕ → Option Keyword
connective word =
    if bytes_eq word (codes "and") then Some key.And else
    (if bytes_eq word (codes "or") then Some key.Or else
    (if bytes_eq word (codes "not") then Some key.Not else
    (if bytes_eq word (codes "True") then Some key.True else
    (if bytes_eq word (codes "False") then Some key.False else None))))

unfoldable pub keyword_of : List ℕ → Option Keyword
keyword_of word =
    if bytes_eq word (codes "if") then Some key.If else
    (if bytes_eq word (codes "elif") then Some key.Elif else
    (if bytes_eq word (codes "else") then Some key.Else else
    (if bytes_eq word (codes "assert") then Some key.Assert else
    (if bytes_eq word (codes "pass") then Some key.Pass else connective word))))

-- a keyword, or else a name
unfoldable pub word_token : List ℕ → Token
word_token word = elim (keyword_of word) [ None ↦ token.Name word | Some keyword ↦ token.Keyword keyword ]

abbrev pub starts_with : ℕ → List ℕ → Bool
starts_with byte [] = false
starts_with byte (first ∷ more) = first == byte

-- the token that is made of a byte and those of a class behind it
abbrev pub token_run : (List ℕ → Token) → Class → ℕ → List ℕ → Cut
token_run make class first more = record { token = make (take (1 + prefix_len (is_in class) more) (first ∷ more)); len = 1 + prefix_len (is_in class) more }

-- the text up to the next quote of its kind
unfoldable pub quoted_token : ℕ → List ℕ → Option Cut
quoted_token quote text =
    let len = prefix_len (is_in (class.Inside quote)) text in
    if starts_with quote (drop len text) then Some (record { token = token.Quoted (take len text); len = len + 2 }) else None

-- the token that a byte and `=` behind it are: `==` (61), `!=` (33), `<=` (60) or `>=` (62)
abbrev pub with_equal : ℕ → Option Token
with_equal first =
    if first == 61 then Some token.Equal else
    (if first == 33 then Some token.NotEqual else
    (if first == 60 then Some token.LessEqual else
    (if first == 62 then Some token.GreaterEqual else None)))

-- this token of two bytes, or the byte itself
abbrev pub sign_by : ℕ → Option Token → Cut
sign_by first None = record { token = token.Symbol first; len = 1 }
sign_by first (Some two) = record { token = two; len = 2 }

unfoldable pub sign : ℕ → List ℕ → Cut
sign first text = sign_by first (if starts_with 61 text then with_equal first else None)

-- how many digits stand behind a point (46) in front
abbrev pub places_len : List ℕ → ℕ
places_len [] = 0
places_len (first ∷ more) = if first == 46 then prefix_len (is_in class.Digit) more else 0

-- the number in front, of which so many digits stand before a point, if there is one that digits follow
unfoldable pub number_token : ℕ → List ℕ → Cut
number_token whole text =
    let places = places_len (drop whole text) in
    if places == 0 then record { token = token.Digits (take whole text); len = whole } else
    record { token = token.Decimal (take whole text) (take places (drop (whole + 1) text)); len = whole + 1 + places }

-- the token in front of a text, by its first byte; 34 and 39 are the quotes
unfoldable pub front_token : List ℕ → Option Cut
front_token [] = None
front_token (first ∷ more) =
    if is_name_start first then Some (token_run word_token class.NameByte first more) else
    (if is_digit first then Some (number_token (1 + prefix_len (is_in class.Digit) more) (first ∷ more)) else
    (if first == 34 || first == 39 then quoted_token first more else
    Some (sign first more)))

-- nothing is left but a comment, which `#` (35) begins
unfoldable pub is_end : List ℕ → Bool
is_end [] = true
is_end (first ∷ more) = first == 35

-- a token, and those behind it
abbrev pub and_then : (List ℕ → Option (List Token)) → List ℕ → Option Cut → Option (List Token)
and_then behind text None = None
and_then behind text (Some cut) = option_map (λ more. cut.token ∷ more) (behind (from_word (drop cut.len text)))

-- the tokens of a text of at most so many bytes, without blanks in front
unfoldable pub tokens_within : ℕ → List ℕ → Option (List Token)
tokens_within zero text = Some []
tokens_within (suc most) text = if is_end text then Some [] else and_then (tokens_within most) text (front_token text)

-- the tokens of a line, or none where a text in it has no end
unfoldable pub tokens : List ℕ → Option (List Token)
tokens line = tokens_within (length line) (from_word line)
