-- Numbers of calls, counted from 0. A call that no u64 numbers is None.
use Rattle.std.specs.Prelude.{ℕ, ◌==◌, ◌+◌, ◌-◌, ◌^◌, nat_lt, if◌then◌else◌, List, Option, None, Some, find, option_map}

-- what a list says of a call: the first entry with its number
abbrev pub at_call : {T : Type 0} → List (ℕ × T) → Option ℕ → Option T
at_call calls None = None
at_call calls (Some call) = option_map (λ c. c.1) (find (λ c. c.0 == call) calls)

-- the call after this one
abbrev pub call_after : Option ℕ → Option ℕ
call_after None = None
call_after (Some call) = if nat_lt call (2 ^ 64 - 1) then Some (call + 1) else None
