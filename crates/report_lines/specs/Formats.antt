-- The formats of a text: `%d`, `%.2f` and `%%` (The Python Standard Library, "printf-style String Formatting"), and any other byte.
use Rattle.std.specs.Prelude.{ℕ, ◌==◌, Bool, true, false, List, [], ◌∷◌, ◌++◌, Option, None, Some, filter, length, option_map, if◌then◌else◌}
use Rattle.report_lines.specs.declared.format.Begun.{Begun}
use Rattle.report_lines.specs.declared.format.Begun.TheVariants as begun
use Rattle.report_lines.specs.declared.format.Format.{Format}
use Rattle.report_lines.specs.declared.format.Format.TheVariants as format
use Rattle.report_lines.specs.declared.format.Step.{Step}

abbrev pub to : Begun → Option Step
to b = Some (record { begun = b; made = None })

abbrev pub making : Format → Option Step
making f = Some (record { begun = begun.Nothing; made = Some f })

-- a byte where this stands before it: 37 is the percent sign, 100 `d`, 46 the point, 50 `2`, 102 `f`
unfoldable pub byte_step : Begun → ℕ → Option Step
byte_step begun.Nothing byte = if byte == 37 then to begun.Percent else making (format.Byte byte)
byte_step begun.Percent byte =
    if byte == 37 then making (format.Byte byte) else
    (if byte == 100 then making format.Whole else
    (if byte == 46 then to begun.Point else None))
byte_step begun.Point byte = if byte == 50 then to begun.Two else None
byte_step begun.Two byte = if byte == 102 then making format.TwoPlaces else None

abbrev pub is_between : Begun → Bool
is_between begun.Nothing = true
is_between other = false

-- the formats with one more, if there is one
abbrev pub with_made : List Format → Option Format → List Format
with_made formats None = formats
with_made formats (Some f) = formats ++ f ∷ []

-- the formats of a text behind what stands before it
unfoldable pub formats_from : Begun → List ℕ → Option (List Format)
formats_from b [] = if is_between b then Some [] else None
formats_from b (byte ∷ more) = elim (byte_step b byte) [
  | None ↦ None
  | Some s ↦ option_map (λ fs. with_made [] s.made ++ fs) (formats_from s.begun more)
]

abbrev pub formats_of : List ℕ → Option (List Format)
formats_of = formats_from begun.Nothing

abbrev pub takes_value : Format → Bool
takes_value (format.Byte byte) = false
takes_value other = true

-- how many values formats take
abbrev pub value_count : List Format → ℕ
value_count formats = length (filter takes_value formats)
