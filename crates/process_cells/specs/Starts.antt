-- Start values (IEEE 1364-2005, 6.2.1 and 9.9.1): what the processes leave that run once.
use Rattle.std.specs.Prelude.{◌≡◌, ℕ, ◌^◌, ◌%◌, ◌<◌, [], length}
use Rattle.vlog_syntax.specs.declared.expr.Expr.{Expr}
use Rattle.vlog_syntax.specs.declared.item.Process.{Process}
use Rattle.vlog_meaning.specs.Scopes.{Names, Store, nothing}
use Rattle.vlog_meaning.specs.Senses.{sense, assigned}
use Rattle.vlog_effects.specs.Effects.{State, effect}
use Rattle.vlog_effects.specs.Expressions.{number}
use Rattle.vlog_effects.specs.Steps.{Steps}
use Rattle.net_builder.specs.Building.{Building, signal, start_bits}
use Rattle.process_events.specs.Events.{Sensitivity, Once, sensitivity}
use Rattle.process_cells.specs.Items.{Widths, process_steps, effect_of}

-- the value of a constant that is assigned to so many bits
abbrev pub assigned_value : Names → Expr → ℕ → ℕ
assigned_value names x width = (sense names x).value nothing (assigned (sense names x) width) % 2 ^ width

-- what statements leave before the first cycle: those alone that run once
abbrev pub once : Widths → Sensitivity → Steps → Store → Store
once width Once steps store = effect_of width steps store
once width other steps store = store

abbrev pub process_starts : Widths → Names → Process → Store → Store
process_starts width names p store = once width (sensitivity p) (process_steps names p) store

-- the signals of a builder start with these values
pub record StartsWith (b : Building) (store : Store) : Type 0 where
  pub count : length b.starts ≡ length b.signals
  pub start : (k : ℕ) → start_bits b k ≡ store k
  pub fits : (k : ℕ) → store k < 2 ^ length (signal b k)

-- start values are given to signals, and nothing else changes
abbrev pub SameButStarts : Building → Building → Type 0
SameButStarts old new = new ≡ record old { starts = new.starts }

-- For proofs alone.

-- The signals start with the values that statements have left so far, of which none waits.
pub record HasState (b : Building) (s : State) : Type 0 where
  pub count : length b.starts ≡ length b.signals
  pub start : (k : ℕ) → start_bits b k ≡ number (s.now k)
  pub wide : (k : ℕ) → length (s.now k) ≡ length (signal b k)
  pub settled : s.scheduled ≡ []

-- the start values go on as the statements do
abbrev pub GoesOn : Steps → Building → Building → Type 0
GoesOn steps old new = (s : State) → HasState old s → HasState new (effect steps s)
