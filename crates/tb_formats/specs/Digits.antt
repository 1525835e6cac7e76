-- Digits of numbers.
use Rattle.std.specs.Prelude.{ℕ, zero, suc, ◌/◌, ◌%◌, ◌==◌, false, List, [], ◌∷◌, ◌++◌, if◌then◌else◌}
use Rattle.std.specs.Fmt.{digit_glyph}

-- the lowest n digits of a number in a base, the highest first
abbrev pub lowest_digits : ℕ → ℕ → ℕ → List ℕ
lowest_digits zero base v = []
lowest_digits (suc n) base v = lowest_digits n base (v / base) ++ digit_glyph false (v % base) ∷ []

-- digits without the zeros in front; the last digit stays
abbrev pub significant : List ℕ → List ℕ
significant [] = []
significant (d ∷ []) = d ∷ []
significant (d ∷ e ∷ more) = if d == 48 then significant (e ∷ more) else d ∷ e ∷ more
