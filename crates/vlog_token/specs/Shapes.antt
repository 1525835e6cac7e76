-- The shape of a number (IEEE 1364-2005, 3.5.1): what a reader takes for one number, whatever its values, and also
-- where its base or its digits are missing behind the `'`.
use Rattle.std.specs.Prelude.{◌≡◌, ℕ, true, List, [], ◌∷◌, ◌++◌, Some, ◌⊎◌, ⊤}
use Rattle.std.specs.Char.{is_ascii_digit}
use Rattle.vlog_token.specs.Bytes.{AllAre, is_decimal_part, is_digit_part, is_sign, radix_of}

-- a digit, and then digits and `_`
abbrev pub IsDigits : List ℕ → Type 0
IsDigits [] = ⊥
IsDigits (c ∷ cs) = (is_ascii_digit c ≡ true) × AllAre is_decimal_part cs

-- nothing, or the letter of a base, and then digits of this base and `_`
abbrev pub IsLettered : List ℕ → Type 0
IsLettered [] = ⊤
IsLettered (c ∷ cs) = (radix : ℕ) × (radix_of c ≡ Some radix) × AllAre (is_digit_part radix) cs

-- what stands behind the `'`: the same, with an `s` or without
abbrev pub IsBase : List ℕ → Type 0
IsBase [] = ⊤
IsBase (c ∷ cs) = ((is_sign c ≡ true) × IsLettered cs) ⊎ IsLettered (c ∷ cs)

-- A size and a base, with `'` between them.
pub record IsSized (text : List ℕ) : Type 0 where
  pub size : List ℕ
  pub base : List ℕ
  pub parts : text ≡ size ++ 39 ∷ base
  pub is_size : (size ≡ []) ⊎ IsDigits size
  pub is_base : IsBase base

abbrev pub IsShape : List ℕ → Type 0
IsShape text = IsDigits text ⊎ IsSized text
