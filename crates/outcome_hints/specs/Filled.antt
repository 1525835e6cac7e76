-- Texts that say something.
use Rattle.std.specs.Prelude.{◌≡◌, ℕ, true, List, length, nat_lt}

abbrev pub IsFilled : List ℕ → Type 0
IsFilled text = nat_lt 0 (length text) ≡ true
