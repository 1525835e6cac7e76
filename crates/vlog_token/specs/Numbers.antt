-- Numbers of the profile and their values (IEEE 1364-2005, 3.5.1).
use Rattle.std.specs.Prelude.{ℕ, ◌+◌, ◌-◌, ◌*◌, ◌^◌, ◌%◌, Bool, true, false, ◌&&◌, ◌==◌, nat_lt, nat_le, List, [], ◌∷◌, Option, Some, None, if◌then◌else◌, fold, option_and_then, take, drop}
use Rattle.std.specs.List.{list_all, position_or_len}
use Rattle.std.specs.Char.{is_ascii_digit, digit_value}
use Rattle.vlog_token.specs.declared.numeral.Plane.{Plane}
use Rattle.vlog_token.specs.declared.numeral.Plane.TheVariants.{Value, X, Z}
use Rattle.vlog_token.specs.declared.value.Number.{Number}
use Rattle.vlog_token.specs.Bytes.{is_decimal_part, is_digit, is_digit_part, is_sign, is_x, is_z, radix_of}

-- What a number says: its width, its bits with each x and z read as 0, whether it is signed, and which of its bits
-- are x and which are z.
pub record NumberMeaning : Type 0 where
  pub width : ℕ
  pub bits : ℕ
  pub is_signed : Bool
  pub x_bits : ℕ
  pub z_bits : ℕ

abbrev pub meaning : Number → NumberMeaning
meaning n = record { width = n.value.width; bits = n.value.bits; is_signed = n.is_signed; x_bits = n.x_bits; z_bits = n.z_bits }

-- digits in positional notation, where `left` stands at their left; `_` stands for nothing
abbrev pub positional : (ℕ → ℕ) → ℕ → ℕ → List ℕ → ℕ
positional digit radix left cs = fold (λ sum c. if c == 95 then sum else sum * radix + digit c) left cs

-- what a digit gives to the value, to the x bits and to the z bits: an x or z digit has all its bits so
abbrev pub value_digit : ℕ → ℕ → ℕ
value_digit radix c = if nat_lt (digit_value c) radix then digit_value c else 0

abbrev pub x_digit : ℕ → ℕ → ℕ
x_digit radix c = if is_x c then radix - 1 else 0

abbrev pub z_digit : ℕ → ℕ → ℕ
z_digit radix c = if is_z c then radix - 1 else 0

-- a leftmost digit that is x or z stands in all bits at its left, up to the width
abbrev pub filled : Bool → ℕ → ℕ
filled is_such width = if is_such then 2 ^ width - 1 else 0

abbrev pub is_digits : List ℕ → Bool
is_digits [] = false
is_digits (c ∷ cs) = is_ascii_digit c && list_all is_decimal_part cs

abbrev pub decimal_value : List ℕ → ℕ
decimal_value cs = positional (value_digit 10) 10 0 cs

-- a decimal number is signed, of 32 bits, and below 2 ^ 32
abbrev pub decimal_number : List ℕ → Option NumberMeaning
decimal_number cs =
    if is_digits cs && nat_lt (decimal_value cs) (2 ^ 32)
    then Some (record { width = 32; bits = decimal_value cs; is_signed = true; x_bits = 0; z_bits = 0 })
    else None

-- a size is from 1 to 128, and 32 where there is none
abbrev pub width_of : List ℕ → Option ℕ
width_of [] = Some 32
width_of (c ∷ cs) =
    let size = decimal_value (c ∷ cs) in
    if is_digits (c ∷ cs) && (nat_le 1 size && nat_le size 128) then Some size else None

-- the digits of a number: at least one, and the first no `_`; what is past the width is cut at the left
abbrev pub digits_number : ℕ → Bool → ℕ → List ℕ → Option NumberMeaning
digits_number width is_signed radix [] = None
digits_number width is_signed radix (c ∷ cs) =
    if is_digit radix c && list_all (is_digit_part radix) cs
    then Some (record {
      width = width;
      bits = positional (value_digit radix) radix 0 (c ∷ cs) % 2 ^ width;
      is_signed = is_signed;
      x_bits = positional (x_digit radix) radix (filled (is_x c) width) (c ∷ cs) % 2 ^ width;
      z_bits = positional (z_digit radix) radix (filled (is_z c) width) (c ∷ cs) % 2 ^ width;
    })
    else None

-- the letter of the base, and the digits
abbrev pub lettered_number : ℕ → Bool → List ℕ → Option NumberMeaning
lettered_number width is_signed [] = None
lettered_number width is_signed (c ∷ cs) =
    option_and_then (λ radix. digits_number width is_signed radix cs) (radix_of c)

-- what stands behind the `'`: it is signed where it has an `s`
abbrev pub base_number : List ℕ → ℕ → Option NumberMeaning
base_number [] width = None
base_number (c ∷ cs) width =
    if is_sign c then lettered_number width true cs else lettered_number width false (c ∷ cs)

abbrev pub is_apostrophe : ℕ → Bool
is_apostrophe c = c == 39

-- a number from what stands before its first `'`, and what stands from there on
abbrev pub number_split : List ℕ → List ℕ → Option NumberMeaning
number_split size [] = decimal_number size
number_split size (apostrophe ∷ base) = option_and_then (base_number base) (width_of size)

-- the number that a text is, if it is one
abbrev pub number_of : List ℕ → Option NumberMeaning
number_of text = let size = position_or_len is_apostrophe text in number_split (take size text) (drop size text)

-- For proofs alone.

-- the same by what is read of each digit
abbrev pub plane_digit : Plane → ℕ → ℕ → ℕ
plane_digit Value radix c = value_digit radix c
plane_digit X radix c = x_digit radix c
plane_digit Z radix c = z_digit radix c
