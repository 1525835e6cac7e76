-- How a list of tokens is parted: at the signs that stand outside parentheses.
use Rattle.std.specs.Prelude.{ℕ, suc, ◌==◌, ◌+◌, ◌-◌, Bool, false, ◌&&◌, List, [], ◌∷◌, if◌then◌else◌}
use Rattle.script_lines.specs.declared.token.Token.{Token}
use Rattle.script_lines.specs.declared.token.Token.TheVariants as token

abbrev pub is_symbol : ℕ → Token → Bool
is_symbol byte (token.Symbol other) = other == byte
is_symbol byte other = false

-- how many parentheses (40, 41) are open behind a token
abbrev pub open_behind : ℕ → Token → ℕ
open_behind opened t = if is_symbol 40 t then opened + 1 else (if is_symbol 41 t then opened - 1 else opened)

-- how many tokens stand before the first sign outside parentheses, of which so many are open
unfoldable pub front_len : (Token → Bool) → ℕ → List Token → ℕ
front_len sign opened [] = 0
front_len sign opened (t ∷ more) = if opened == 0 && sign t then 0 else suc (front_len sign (open_behind opened t) more)
