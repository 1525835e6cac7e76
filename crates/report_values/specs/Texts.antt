-- The texts of fractions, as `%d` and `%.2f` print them.
use Rattle.std.specs.Prelude.{ℕ, ◌+◌, ◌*◌, ◌/◌, ◌%◌, ◌==◌, Bool, not, ◌&&◌, List, [], ◌∷◌, ◌++◌, decimal, nat_lt, if◌then◌else◌}
use Rattle.report_values.specs.declared.fraction.Fraction.{Fraction}

-- `-` (45), but not before 0
abbrev pub sign_text : Bool → ℕ → List ℕ
sign_text negative size = if negative && not (size == 0) then 45 ∷ [] else []

-- cut towards 0
unfoldable pub whole_text : Fraction → List ℕ
whole_text f = sign_text f.negative (f.numerator / f.denominator) ++ decimal (f.numerator / f.denominator)

-- the whole number nearest to n / d, and of two that are equally near the even one
unfoldable pub nearest : ℕ → ℕ → ℕ
nearest n d =
    if nat_lt (n % d * 2) d then n / d else
    (if nat_lt d (n % d * 2) then n / d + 1 else n / d + n / d % 2)

-- a point (46) and the last two places
abbrev pub places : ℕ → List ℕ
places hundredths = 46 ∷ (48 + hundredths / 10 % 10) ∷ (48 + hundredths % 10) ∷ []

-- rounded to hundredths
unfoldable pub two_places_text : Fraction → List ℕ
two_places_text f =
    let hundredths = nearest (f.numerator * 100) f.denominator in
    sign_text f.negative hundredths ++ (decimal (hundredths / 100) ++ places hundredths)
