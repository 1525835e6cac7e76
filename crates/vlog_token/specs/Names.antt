-- The name that a token stands for (IEEE 1364-2005, 3.7.1: the `\` is no part of an escaped name), and the bytes that a
-- string stands for (3.6).
use Rattle.std.specs.Prelude.{◌≡◌, ℕ, Bool, true, false, ◌==◌, List, [], ◌∷◌, ◌++◌, map, drop, if◌then◌else◌}
use Rattle.std.specs.List.{AllByRecursion, concat}
use Rattle.vlog_token.specs.declared.token.TokenKind.{TokenKind}
use Rattle.vlog_token.specs.declared.token.TokenKind.TheVariants.{Escaped}
use Rattle.vlog_token.specs.Kinds.{IsStringItem}

-- the bytes without a `\` in front
abbrev pub without_backslash : List ℕ → List ℕ
without_backslash [] = []
without_backslash (c ∷ cs) = if c == 92 then cs else c ∷ cs

abbrev pub name_of : TokenKind → List ℕ → List ℕ
name_of Escaped text = without_backslash text
name_of _ text = text

-- the byte that an escape stands for: a newline for `n`, a tab for `t`, itself for `\` and `"`
abbrev pub escape_byte : ℕ → ℕ
escape_byte e = if e == 110 then 10 else (if e == 116 then 9 else e)

-- the byte that an item of a string stands for
abbrev pub item_byte : List ℕ → ℕ
item_byte (c ∷ e ∷ rest) = escape_byte e
item_byte (c ∷ []) = c
item_byte [] = 0

-- The bytes are what the string stands for: those of its items.
abbrev pub IsStringValue : List ℕ → List ℕ → Type 0
IsStringValue text bytes =
    (items : List (List ℕ)) → AllByRecursion IsStringItem items → text ≡ 34 ∷ (concat items ++ 34 ∷ []) → bytes ≡ map item_byte items

-- the same, byte by byte, behind a `\` that begins an escape or not
abbrev pub unescaped : Bool → List ℕ → List ℕ
unescaped is_escaped [] = []
unescaped true (c ∷ cs) = escape_byte c ∷ unescaped false cs
unescaped false (c ∷ cs) = if c == 34 then [] else (if c == 92 then unescaped true cs else c ∷ unescaped false cs)

-- what is read of any text in this way
abbrev pub string_bytes : List ℕ → List ℕ
string_bytes text = unescaped false (drop 1 text)
