-- Numbers of a project file: one or more decimal digits.
use Rattle.std.specs.Prelude.{ℕ, ◌+◌, ◌-◌, ◌*◌, Bool, ◌&&◌, List, nat_le, if◌then◌else◌}
use Rattle.std.specs.List.{fold, list_all}
use Rattle.project_lines.specs.Lines.{is_filled}

unfoldable pub is_digit : ℕ → Bool
is_digit byte = nat_le 48 byte && nat_le byte 57

unfoldable pub is_number : List ℕ → Bool
is_number word = is_filled word && list_all is_digit word

-- what the digits say
unfoldable pub value : List ℕ → ℕ
value word = fold (λ before digit. before * 10 + (digit - 48)) 0 word

-- a number from `least` to `most`
unfoldable pub is_within : ℕ → ℕ → List ℕ → Bool
is_within least most word = is_number word && (nat_le least (value word) && nat_le (value word) most)

-- the number, or the default where it is none within these
unfoldable pub value_within : ℕ → ℕ → ℕ → List ℕ → ℕ
value_within default least most word = if is_within least most word then value word else default
