-- Builders that have the same signals, of which the same bits are written: nothing that is refused in an item tells them apart.
use Rattle.std.specs.Prelude.{◌≡◌, ◌↔◌, ℕ}
use Rattle.net_builder.specs.Building.{Building}
use Rattle.flat_runs.specs.Adding.{IsWritten}

pub record AreAlike (b c : Building) : Type 0 where
  pub signals : b.signals ≡ c.signals
  pub written : (k i : ℕ) → IsWritten b k i ↔ IsWritten c k i
