-- Bytes by what they may stand for in a source (IEEE 1364-2005, 3.2 to 3.7), by their ASCII codes.
use Rattle.std.specs.Prelude.{◌≡◌, ℕ, Bool, true, not, ◌&&◌, ◌||◌, ◌==◌, nat_lt, List, Option, Some, None, if◌then◌else◌}
use Rattle.std.specs.List.{AllByRecursion, list_any}
use Rattle.std.specs.Char.{is_ascii_digit, is_ascii_alphabetic, is_ascii_alphanumeric, digit_value}

abbrev pub is_newline : ℕ → Bool
is_newline c = c == 10

-- a byte of a line
abbrev pub is_in_line : ℕ → Bool
is_in_line c = not (is_newline c)

-- space, tab, newline, carriage return, form feed
abbrev pub is_blank : ℕ → Bool
is_blank c = c == 32 || c == 9 || c == 10 || c == 13 || c == 12

abbrev pub is_solid : ℕ → Bool
is_solid c = not (is_blank c)

-- a letter or `_`
abbrev pub is_name_start : ℕ → Bool
is_name_start c = is_ascii_alphabetic c || c == 95

-- a letter, a digit, `_` or `$`
abbrev pub is_name_part : ℕ → Bool
is_name_part c = is_ascii_alphanumeric c || c == 95 || c == 36

-- a decimal digit or `_`
abbrev pub is_decimal_part : ℕ → Bool
is_decimal_part c = is_ascii_digit c || c == 95

-- `s` in either case
abbrev pub is_sign : ℕ → Bool
is_sign c = c == 115 || c == 83

-- `x` in either case
abbrev pub is_x : ℕ → Bool
is_x c = c == 120 || c == 88

-- `z` in either case, or `?`
abbrev pub is_z : ℕ → Bool
is_z c = c == 122 || c == 90 || c == 63

-- the radix of a base's letter: `b`, `o`, `d` or `h` in either case
abbrev pub radix_of : ℕ → Option ℕ
radix_of c =
    if c == 98 || c == 66 then Some 2
    else (if c == 111 || c == 79 then Some 8
    else (if c == 100 || c == 68 then Some 10
    else (if c == 104 || c == 72 then Some 16
    else None)))

-- a digit below the radix, or an x or z digit where the radix isn't 10
abbrev pub is_digit : ℕ → ℕ → Bool
is_digit radix c = nat_lt (digit_value c) radix || (not (radix == 10) && (is_x c || is_z c))

abbrev pub is_digit_part : ℕ → ℕ → Bool
is_digit_part radix c = is_digit radix c || c == 95

-- a byte that stands for itself in a string: none of newline, `"` and `\`
abbrev pub is_plain : ℕ → Bool
is_plain c = not (c == 10 || c == 34 || c == 92)

-- what stands behind the `\` of an escape: `n`, `t`, `\` or `"`
abbrev pub is_escape : ℕ → Bool
is_escape c = c == 110 || c == 116 || c == 92 || c == 34

-- each of the bytes is such
abbrev pub AllAre : (ℕ → Bool) → List ℕ → Type 0
AllAre p cs = AllByRecursion (λ c. p c ≡ true) cs

-- the byte is one of these
abbrev pub is_among : List ℕ → ℕ → Bool
is_among cs c = list_any (λ d. d == c) cs
