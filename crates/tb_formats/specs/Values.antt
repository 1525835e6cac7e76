-- Values as text (IEEE 1364-2005, 17.1.1.2 and 17.1.1.3).
use Rattle.std.specs.Prelude.{ℕ, ◌+◌, ◌-◌, ◌%◌, ◌^◌, Bool, List, [], ◌∷◌, ◌++◌, length, replicate, decimal, if◌then◌else◌}
use Rattle.std.specs.Fmt.{signed_decimal}
use Rattle.std.specs.Int.{div_ceil}
use Rattle.vlog_meaning.specs.declared.shapes.Shape.{Shape}
use Rattle.vlog_meaning.specs.Integers.{integer}
use Rattle.tb_formats.specs.declared.form.Form.{Form}
use Rattle.tb_formats.specs.declared.form.Form.TheVariants.{Binary, Octal, Hexadecimal, Decimal, Time, Character}
use Rattle.tb_formats.specs.declared.form.Format.{Format}
use Rattle.tb_formats.specs.Digits.{lowest_digits, significant}

-- all digits of k bits each of a number of this width, or without zeros in front where it is not padded
abbrev pub in_base : ℕ → Bool → ℕ → ℕ → List ℕ
in_base k padded width v = let digits = lowest_digits (div_ceil width k) (2 ^ k) v in if padded then digits else significant digits

-- right-aligned in so many places
abbrev pub aligned : ℕ → List ℕ → List ℕ
aligned places text = replicate (places - length text) 32 ++ text

-- the digits of the greatest number of the width, and a place for a sign
abbrev pub decimal_places : Shape → ℕ
decimal_places s = length (decimal (2 ^ s.width - 1)) + (if s.is_signed then 1 else 0)

abbrev pub in_form : Form → Bool → Shape → ℕ → List ℕ
in_form Binary padded s v = in_base 1 padded s.width v
in_form Octal padded s v = in_base 3 padded s.width v
in_form Hexadecimal padded s v = in_base 4 padded s.width v
in_form Decimal padded s v = aligned (if padded then decimal_places s else 0) (signed_decimal (integer s v))
in_form Time padded s v = aligned (if padded then 20 else 0) (signed_decimal (integer s v))
in_form Character padded s v = v % 256 ∷ []

abbrev pub printed : Format → Shape → ℕ → List ℕ
printed f s v = in_form f.form f.padded s v
