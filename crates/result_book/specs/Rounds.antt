-- Round numbers, and the limits under which given-up tests are asked again.
use Rattle.std.specs.Prelude.{ℕ, ◌==◌, Bool, ◌&&◌, drop, decimal, nat_le}
use Rattle.std.specs.List.{list_all}

-- all decimal digits of the number after the first two are 0
abbrev pub is_round : ℕ → Bool
is_round n = list_all (λ digit. digit == 48) (drop 2 (decimal n))

-- the greatest limit
abbrev pub max_limit : ℕ
max_limit = 100000

-- given-up tests may be asked again under this limit
abbrev pub is_limit : ℕ → Bool
is_limit n = is_round n && (nat_le 1 n && nat_le n max_limit)
