-- Bytes by what they may stand for in a script.
use Rattle.std.specs.Prelude.{ℕ, ◌==◌, Bool, ◌&&◌, not}
use Rattle.script_lines.specs.declared.class.Class.{Class}
use Rattle.script_lines.specs.declared.class.Class.TheVariants.{Blank, NameByte, Digit, Inside}
use Rattle.project_lines.specs.Lines.{is_blank}
use Rattle.project_lines.specs.Numbers.{is_digit}
use Rattle.project_lines.specs.Words.{is_name_byte}

-- a byte between these quotes: another one, and no backslash (92)
unfoldable pub is_inside : ℕ → ℕ → Bool
is_inside quote byte = not (byte == quote) && not (byte == 92)

unfoldable pub is_in : Class → ℕ → Bool
is_in Blank byte = is_blank byte
is_in NameByte byte = is_name_byte byte
is_in Digit byte = is_digit byte
is_in (Inside quote) byte = is_inside quote byte
