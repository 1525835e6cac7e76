-- The names of a turn.
use Rattle.vlog_effects.proofs.Common.{◌≡◌, ℕ, ◌%◌, ◌^◌, ◌≤◌, Bool, true, false, Option, Some, None, nat_le, nat_lt, refl, ap, if◌then◌else◌, bytes_eq, mod-lt, lt-ltb, le-leb, pow_pos, Word, Decl}
use Rattle.vlog_effects.proofs.Common.{Constant, Loop, tested_word, word_of, with_word, HoldsValue, VariableIsConstant, OthersStay}
use Rattle.std.specs.Cmp.Lexicographic.{bytes_decides}

abbrev IsWord : ℕ → ℕ → Option Word → Type 0
IsWord width bits (Some word) = (word.width ≡ width) × (word.bits ≡ bits)
IsWord width bits None = ⊥

tested-holds : (width bits : ℕ) (some narrow fits : Bool) (e : nat_le 1 width ≡ some) (f : nat_le width 128 ≡ narrow) (g : nat_lt bits (2 ^ width) ≡ fits) → some ≡ true → narrow ≡ true → fits ≡ true → IsWord width bits (tested_word width bits some narrow fits e f g)
tested-holds width bits true true true e f g h j k = (refl, refl)
tested-holds width bits true true false e f g h j k = cc
tested-holds width bits true false fits e f g h j k = cc
tested-holds width bits false narrow fits e f g h j k = cc

word-holds : (width v : ℕ) → 1 ≤ width → width ≤ 128 → IsWord width (v % 2 ^ width) (word_of width v)
word-holds width v some narrow = tested-holds width (v % 2 ^ width) _ _ _ refl refl refl (le-leb 1 width some) (le-leb width 128 narrow) (lt-ltb (v % 2 ^ width) (2 ^ width) (mod-lt v (pow_pos width)))

here : (b : Bool) (loop : Loop) (v : ℕ) (word : Word) (d : Option Decl) → b ≡ true → IsWord loop.width (v % 2 ^ loop.width) (Some word) → HoldsValue loop v (if b then Some (Constant word 0 loop.is_signed) else d)
here true loop v word d e h = (h.0, h.1, refl, refl)
here false loop v word d e h = cc

pub variable-is-constant : VariableIsConstant
variable-is-constant loop names v some narrow = go (word_of loop.width v) (word-holds loop.width v some narrow) where
  go : (o : Option Word) → IsWord loop.width (v % 2 ^ loop.width) o → HoldsValue loop v (with_word loop names o loop.name.name)
  go (Some word) h = here (bytes_eq loop.name.name loop.name.name) loop v word (names loop.name.name) ((bytes_decides loop.name.name loop.name.name).1 refl) h
  go None h = absurd h

pub others-stay : OthersStay
others-stay loop names v other e = go (word_of loop.width v) where
  go : (o : Option Word) → with_word loop names o other ≡ names other
  go (Some word) = ap (λ (b : Bool). if b then Some (Constant word 0 loop.is_signed) else names other) e
  go None = refl
