-- The sorts of the parts of a production, one by one.
use Rattle.std.proofs.Common.{◌≡◌, ℕ, zero, suc, Bool, true, List, [], ◌∷◌, refl}
use Rattle.vlog_grammar.specs.declared.table.Symbol.{Symbol}
use Rattle.vlog_parts.specs.declared.value.Value.{Value}
use Rattle.vlog_parts.specs.Numbered.{first, rest}
use Rattle.vlog_parts.specs.Kinds.{is_of, are_of}
use Rattle.vlog_grammar.proofs.Passes.{and_left, and_right}

-- a part is of the sort of the symbol with this number
abbrev pub fits : ℕ → List Symbol → Value → Bool
fits n [] x = true
fits zero (s ∷ ss) x = is_of s x
fits (suc n) (s ∷ ss) x = fits n ss x

abbrev pub behind : ℕ → List Value → List Value
behind zero ms = ms
behind (suc n) ms = behind n (rest ms)

pub later : (n : ℕ) (ss : List Symbol) (ms : List Value) → are_of ss ms ≡ true → fits n ss (first (behind n ms)) ≡ true
later zero [] ms h = refl
later (suc n) [] ms h = refl
later zero (s ∷ ss) ms h = and_left (is_of s (first ms)) (are_of ss (rest ms)) h
later (suc n) (s ∷ ss) ms h = later n ss (rest ms) (and_right (is_of s (first ms)) (are_of ss (rest ms)) h)
