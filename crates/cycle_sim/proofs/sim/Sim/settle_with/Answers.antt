use Rattle.cycle_sim.proofs.Common.{◌≡◌, ℕ, ◌≤◌, List, ◌++◌, map, length, take, drop, sym, ◌∙◌, ap, subst, slice_index, length-map, Word, Nets, plain, bits_at, Holds, drivers, Plan, Simulated}
use Rattle.cycle_sim.proofs.Common.{numbers_of, settled_nets, AreReaders}
use Rattle.cycle_sim.proofs.Fronts.{named-inside, laid-front-is}
use Rattle.cycle_sim.proofs.sim.Sim.settle_with.Goals as goal

widths-of : (plan now : Plan) (widths numbers : List ℕ) → plan ≡ now → map (slice_index widths) numbers ≡ map length (bits_at now.raw.inputs) → map (slice_index widths) numbers ≡ map length (bits_at plan.raw.inputs)
widths-of plan now widths numbers same is = subst (λ (p : Plan). map (slice_index widths) numbers ≡ map length (bits_at p.raw.inputs)) (sym same) is

front-is : (plan : Plan) (widths numbers values : List ℕ) (k : ℕ) (old table : List ℕ) → map (slice_index widths) numbers ≡ map length (bits_at plan.raw.inputs) → table ≡ map (slice_index values) numbers ++ drop k old → take (length plan.raw.inputs) table ≡ map (slice_index values) numbers
front-is plan widths numbers values k old table have is = laid-front-is (length plan.raw.inputs) k (map (slice_index values) numbers) old table is (length-map numbers (slice_index values) ∙ named-inside plan.raw widths numbers have)

pub lay_named-requires-clause-inside : goal.lay_named-requires-clause-inside
lay_named-requires-clause-inside c = c.requires.inside

pub lay_named-requires-clause-widths : goal.lay_named-requires-clause-widths
lay_named-requires-clause-widths c = widths-of c.self.inside.netlist c.args.self.now.plan (map (λ (w : Word). w.width) c.args.store.now) c.args.numbers.now (ap (λ (s : Simulated). s.plan) c.self.view_is) c.requires.widths

pub lay_named-requires-clause-held : goal.lay_named-requires-clause-held
lay_named-requires-clause-held c = record { fit = c.self.invariant.numbers; current = c.self.invariant.current }

pub lay_named-requires-clause-readers : goal.lay_named-requires-clause-readers
lay_named-requires-clause-readers c = subst (AreReaders c.self.inside.netlist) (sym c.as_slice.ensures.value) c.self.invariant.reading

pub invariant_of-self : goal.invariant_of-self
invariant_of-self c = record {
  sound = c.self.invariant.sound;
  gates = c.self.invariant.gates;
  next = c.self.invariant.next;
  outputs = c.self.invariant.outputs;
  reading = c.self.invariant.reading;
  numbers = c.lay_named.ensures.held.fit;
  stored = c.self.invariant.stored;
  current = c.lay_named.ensures.held.current;
}

pub returns-clause-holds : goal.returns-clause-holds
returns-clause-holds c =
    let plan = c.self.inside.netlist in
    let given = front-is plan (map (λ (w : Word). w.width) c.args.store.now) c.args.numbers.now (numbers_of c.args.store.now) (length c.args.numbers.now) c.self.inside.table.items c.lay_named.new.table.items (widths-of plan c.args.self.now.plan (map (λ (w : Word). w.width) c.args.store.now) c.args.numbers.now (ap (λ (s : Simulated). s.plan) c.self.view_is) c.requires.widths) c.lay_named.ensures.table in
    let nets : Nets = settled_nets c.settle_nets.new.self in
    let holds : Holds (plain nets) nets plan.raw (map (slice_index (numbers_of c.args.store.now)) c.args.numbers.now) c.self.inside.registers.items = subst (λ (l : List ℕ). Holds (plain nets) nets plan.raw l c.self.inside.registers.items) given c.settle_nets.ensures.holds in
    subst (λ (s : Simulated). Holds (plain nets) nets s.plan.raw (map (slice_index (numbers_of c.args.store.now)) c.args.numbers.now) s.registers) c.self.view_is holds

pub returns-clause-alone : goal.returns-clause-alone
returns-clause-alone c =
    let plan = c.self.inside.netlist in
    let given = front-is plan (map (λ (w : Word). w.width) c.args.store.now) c.args.numbers.now (numbers_of c.args.store.now) (length c.args.numbers.now) c.self.inside.table.items c.lay_named.new.table.items (widths-of plan c.args.self.now.plan (map (λ (w : Word). w.width) c.args.store.now) c.args.numbers.now (ap (λ (s : Simulated). s.plan) c.self.view_is) c.requires.widths) c.lay_named.ensures.table in
    let alone : (nets : Nets) → Holds (plain nets) nets plan.raw (map (slice_index (numbers_of c.args.store.now)) c.args.numbers.now) c.self.inside.registers.items → (n : ℕ) → 1 ≤ drivers plan.raw n → nets n ≡ settled_nets c.settle_nets.new.self n = subst (λ (l : List ℕ). (nets : Nets) → Holds (plain nets) nets plan.raw l c.self.inside.registers.items → (n : ℕ) → 1 ≤ drivers plan.raw n → nets n ≡ settled_nets c.settle_nets.new.self n) given c.settle_nets.ensures.alone in
    subst (λ (s : Simulated). (nets : Nets) → Holds (plain nets) nets s.plan.raw (map (slice_index (numbers_of c.args.store.now)) c.args.numbers.now) s.registers → (n : ℕ) → 1 ≤ drivers s.plan.raw n → nets n ≡ settled_nets c.settle_nets.new.self n) c.self.view_is alone

pub returns-clause-plan : goal.returns-clause-plan
returns-clause-plan c = c.settle_nets.ensures.plan ∙ ap (λ (s : Simulated). s.plan) c.self.view_is

pub returns-clause-registers : goal.returns-clause-registers
returns-clause-registers c = c.settle_nets.ensures.registers ∙ ap (λ (s : Simulated). s.registers) c.self.view_is
