-- The values of signals stay within their widths while processes run.
use Rattle.tb_once.proofs.Common.{◌≡◌, ℕ, ◌<◌, ◌^◌, List, [], map, length, subst, refl, slice_index, All, length-map, All-nil, All-append, pow_pos, Word, RawNetlist, Assignment, Names, World}
use Rattle.tb_once.proofs.Common.{all_applied, Fits, Suspended, Pauses, State, active_part, event_of_phase, Tree, all_fit, meaning, store_in, HasSignals, updates_fit, Parts, names, widths, begun}
use Rattle.tb_once.proofs.Common.{with_clock, setting_of, IsRunnable, AreValues}
use Rattle.tb_machine.specs.declared.event.Event.{Event}
use Rattle.tb_machine.specs.declared.event.Event.TheVariants.{Start, Rise, Fall}
use Rattle.tb_assigns.specs.Updates.{updates}
use Rattle.tb_process.proofs.Keeping.{Keeps, Left, active_keeps}
use Rattle.tb_once.proofs.Values.{value_set, values_applied}

-- a world with the values of signals of these widths, and updates that fit them
record Stays (sizes : List ℕ) (w : World) : Type 0 where
  pub widths_are : w.widths ≡ sizes
  pub values : AreValues sizes w.store
  pub fit : All (Fits sizes) w.updates

module _ (names : Names) (phase : ℕ) (sizes : List ℕ) (has : HasSignals names sizes) where
  fits_in : (a : Assignment) (w : World) → All (Fits sizes) (updates names phase a (store_in w) w.words).0
  fits_in a w = updates_fit names sizes (updates names phase a (store_in w) w.words).0 has (all_fit names phase a (store_in w) w.words)

  keeps_values : Keeps (meaning names phase) (Stays sizes)
  keeps_values = record {
    holds = λ x w p. record { widths_are = p.widths_are; values = p.values; fit = p.fit };
    count = λ x w p. record { widths_are = p.widths_are; values = p.values; fit = p.fit };
    choice = λ kind x labels w p. record { widths_are = p.widths_are; values = p.values; fit = p.fit };
    assigned = λ a w p. record { widths_are = p.widths_are; values = values_applied sizes (updates names phase a (store_in w) w.words).0 w.store (fits_in a w) p.values; fit = p.fit };
    scheduled = λ a w p. record { widths_are = p.widths_are; values = p.values; fit = All-append (Fits sizes) w.updates (updates names phase a (store_in w) w.words).0 p.fit (fits_in a w) };
    task = λ name arguments w p. record { widths_are = p.widths_are; values = p.values; fit = p.fit };
  }

clocked_values : (b : Parts) → IsRunnable b → (event : Event) (store : List ℕ) → AreValues (widths b) store → AreValues (widths b) (with_clock b.clock event store)
clocked_values b runs Start store values = values
clocked_values b runs Rise store values =
    let known : b.clock.signal < length (widths b) = rw (length-map b.starts (λ (w : Word). w.width)) runs.clock in
    value_set (widths b) store b.clock.signal b.clock.high.bits known (subst (λ (n : ℕ). b.clock.high.bits < 2 ^ n) runs.high b.clock.high.fits) values
clocked_values b runs Fall store values =
    let known : b.clock.signal < length (widths b) = rw (length-map b.starts (λ (w : Word). w.width)) runs.clock in
    value_set (widths b) store b.clock.signal 0 known (pow_pos (slice_index (widths b) b.clock.signal)) values

-- the store in which the nets of a phase settle
pub active_stays : (b : Parts) (tree : Tree) (netlist : RawNetlist) → IsRunnable b → (s : State) (left : ℕ) (ps : List Suspended) (w : World) → AreValues (widths b) s.store → active_part (setting_of b tree netlist) s ≡ Pauses left ps w → AreValues (widths b) (all_applied w.store w.updates)
active_stays b tree netlist runs s left ps w values part =
    let start : World = record { widths = widths b; store = with_clock b.clock (event_of_phase s.phase) s.store; words = s.words; updates = []; text = [] } in
    let first : Stays (widths b) start = record { widths_are = refl; values = clocked_values b runs (event_of_phase s.phase) s.store values; fit = All-nil (Fits (widths b)) } in
    let ends : Left (Stays (widths b)) (active_part (setting_of b tree netlist) s) = active_keeps (meaning (names b) s.phase) (Stays (widths b)) (keeps_values (names b) s.phase (widths b) runs.signals) (event_of_phase s.phase) (map (begun tree) b.always) s.initial start first in
    let stays : Stays (widths b) w = subst (Left (Stays (widths b))) part ends in
    values_applied (widths b) w.updates w.store stays.fit stays.values
