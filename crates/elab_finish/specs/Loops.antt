-- Nets that lead back to themselves without passing through a cell, and the first left side that writes one.
use Rattle.std.specs.Prelude.{◌≡◌, ◌⊎◌, ℕ, ◌+◌, ◌<◌, ◌≤◌, true, List, [], ◌∷◌, None}
use Rattle.std.specs.List.{Contains}
use Rattle.net_builder.specs.declared.steps.Step.{Step}
use Rattle.net_builder.specs.Building.{Building}
use Rattle.net_builder.specs.Written.{joint_of}
use Rattle.net_builder.specs.Finished.{stepped, IsOnLoop}
use Rattle.flat_runs.specs.Adding.{IsBit}
use Rattle.elab_finish.specs.declared.left.Left.{Left}

-- where a net leads that is joined; any other stays
abbrev pub next_of : Building → ℕ → Step
next_of b n = stepped (joint_of b.joints n) true None

-- the net leads back to itself
abbrev pub IsLooped : Building → ℕ → Type 0
IsLooped b n = IsOnLoop (next_of b) n

-- the net is one of so many bits of a signal from bit `first` on
abbrev pub IsAmong : Building → ℕ → ℕ → ℕ → ℕ → Type 0
IsAmong b signal first count n = (i : ℕ) × (first ≤ i) × (i < first + count) × IsBit b signal i n

-- the left side writes the net
abbrev pub WritesNet : Building → Left → ℕ → Type 0
WritesNet b left n = IsAmong b left.signal left.first left.count n

-- the left side writes a net that leads back to itself
abbrev pub IsLeftLooped : Building → Left → Type 0
IsLeftLooped b left = (n : ℕ) × WritesNet b left n × IsLooped b n

-- the first of the left sides that does
abbrev pub IsFirstLooped : Building → List Left → Left → Type 0
IsFirstLooped b [] left = ⊥
IsFirstLooped b (x ∷ more) left = (IsLeftLooped b x × (x ≡ left)) ⊎ ((¬ IsLeftLooped b x) × IsFirstLooped b more left)

-- where a net leads back to itself, one of the left sides writes such a net
abbrev pub AreCovered : Building → List Left → Type 0
AreCovered b lefts = (n : ℕ) → IsLooped b n → (left : Left) × Contains lefts left × IsLeftLooped b left

-- For proofs alone.

abbrev pub IsLoopFree : Building → Type 0
IsLoopFree b = (n : ℕ) → ¬ IsLooped b n
