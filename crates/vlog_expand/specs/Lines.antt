-- The rest of a line.
use Rattle.std.specs.Prelude.{ℕ, Bool, ◌==◌, List, [], ◌∷◌, if◌then◌else◌}
use Rattle.vlog_token.specs.declared.token.Token.{Token}

abbrev pub is_on : ℕ → Token → Bool
is_on line t = t.span.line == line

-- the tokens that begin the list and stand on the line
abbrev pub rest_of_line : ℕ → List Token → List Token
rest_of_line line [] = []
rest_of_line line (t ∷ ts) = if is_on line t then t ∷ rest_of_line line ts else []

-- the tokens behind these
abbrev pub behind_line : ℕ → List Token → List Token
behind_line line [] = []
behind_line line (t ∷ ts) = if is_on line t then behind_line line ts else t ∷ ts
