-- Benches of one module have one setting and one start.
use Rattle.tb_reading.proofs.Common.{◌≡◌, ℕ, List, [], ◌∷◌, map, slice_set, Option, None, Some, refl, sym, ap, ◌∙◌, subst, bits_at, Names, names_of, Event, Tree, tree_of, waiting, meaning, assigns_of}
use Rattle.tb_reading.proofs.Common.{values_at, whole_updates, Generator, BenchItem, nodes_of, Clock, Parts, Waiting, begun, names, widths, with_clock, Reading, HasParts, IsClockOf, begun_as}
use Rattle.tb_reading.proofs.Common.{first_generator, high_bits, Begun, processes, AreAlike, BenchesAreAlike}
use Rattle.std.proofs.Common.{slice_index}
use Rattle.cycle_sim.specs.Simulated.{starts_of}
use Rattle.vlog_syntax.specs.declared.item.ProcessKind.TheVariants as kind
use Rattle.tb_machine.specs.declared.event.Event.TheVariants.{Start, Rise, Fall}
use Rattle.tb_machine.specs.Phases.{event_of_phase}
use Rattle.tb_machine.specs.Steps.{Suspended}
use Rattle.tb_reading.proofs.Readings.{ReadAlike, read_once}

-- the clock of a generator is one

record ClockAlike (c d : Clock) : Type 0 where
  signal : c.signal ≡ d.signal
  high : c.high.bits ≡ d.high.bits

clock_once : (names : Names) (o : Option Generator) (c d : Clock) → IsClockOf names o c → IsClockOf names o d → ClockAlike c d
clock_once names None c d h k = absurd h
clock_once names (Some g) c d (low, sign, at, high) (low', sign', there, other) =
    let width : c.high.width ≡ d.high.width = cc in
    record { signal = cc; high = high ∙ ap (high_bits g.inversion) width ∙ sym other }

clocked : (c d : Clock) → ClockAlike c d → (event : Event) (store : List ℕ) → with_clock c event store ≡ with_clock d event store
clocked c d same Start store = refl
clocked c d same Rise store = λ i. slice_set store (same.signal i) (same.high i)
clocked c d same Fall store = λ i. slice_set store (same.signal i) 0

-- processes as they stand in the source, before anything of them is carried out

abbrev as_begun : Begun → Suspended
as_begun x = waiting x.event x.body

all_begun : (tree : Tree) (ps : List Waiting) → map (begun tree) ps ≡ map as_begun (map (begun_as tree) ps)
all_begun tree [] = refl
all_begun tree (p ∷ more) = ap (λ (l : List Suspended). begun tree p ∷ l) (all_begun tree more)

pub parts_alike : (r s : Reading) (a b : Parts) → ReadAlike r s → HasParts r a → HasParts s b → AreAlike a b
parts_alike r s a b same h k =
    let named : names a ≡ names b = ap names_of h.scope ∙ same.names ∙ ap names_of (sym k.scope) in
    let wide : widths a ≡ widths b = h.widths_are ∙ same.widths ∙ sym k.widths_are in
    let inputs : a.inputs ≡ b.inputs = h.inputs ∙ same.inputs ∙ sym k.inputs in
    let outputs : a.outputs ≡ b.outputs = h.outputs ∙ same.outputs ∙ sym k.outputs in
    let nodes : a.nets.nodes ≡ b.nets.nodes = h.nets ∙ ap nodes_of same.items ∙ sym k.nets in
    let values : map (λ w. w.bits) a.starts ≡ map (λ w. w.bits) b.starts = h.values ∙ same.values ∙ sym k.values in
    let moved : IsClockOf (names b) (first_generator s.items.items) a.clock = subst (λ (n : Names). IsClockOf n (first_generator s.items.items) a.clock) named (subst (λ (xs : List BenchItem). IsClockOf (names a) (first_generator xs) a.clock) same.items h.clock) in
    let clock : ClockAlike a.clock b.clock = clock_once (names b) (first_generator s.items.items) a.clock b.clock moved k.clock in
    let always : map (begun (tree_of h.trees)) a.always ≡ map (begun (tree_of k.trees)) b.always =
    all_begun (tree_of h.trees) a.always ∙ ap (map as_begun) (h.always ∙ ap (processes kind.Always) same.items ∙ sym k.always) ∙ sym (all_begun (tree_of k.trees) b.always) in
    let initial : map (begun (tree_of h.trees)) a.initial ≡ map (begun (tree_of k.trees)) b.initial =
    all_begun (tree_of h.trees) a.initial ∙ ap (map as_begun) (h.initial ∙ ap (processes kind.Initial) same.items ∙ sym k.initial) ∙ sym (all_begun (tree_of k.trees) b.initial) in
    record {
      trees = h.trees;
      code = h.code;
      others = k.trees;
      other_code = k.code;
      settings = λ netlist i. record {
        meaning = meaning (named i);
        always = always i;
        widths = wide i;
        clocked = λ phase store. clocked a.clock b.clock clock (event_of_phase phase) store i;
        netlist = netlist;
        inputs = values_at (inputs i);
        outputs = whole_updates (outputs i) (bits_at netlist.outputs);
        assigns = assigns_of (named i) (nodes i);
      };
      starts = λ netlist words i. record { phase = 0; store = values i; registers = starts_of netlist; next = starts_of netlist; initial = initial i; words = words; text = [] };
      fits = λ netlist fit. record {
        inputs = sym (λ i. map (slice_index (wide i)) (inputs i)) ∙ fit.inputs;
        outputs = sym (λ i. map (slice_index (wide i)) (outputs i)) ∙ fit.outputs;
      };
    }

pub benches_alike : BenchesAreAlike
benches_alike m top netlist a b h k = parts_alike h.reading k.reading a b (read_once m top netlist h.reading k.reading h.read k.read) h.parts k.parts
