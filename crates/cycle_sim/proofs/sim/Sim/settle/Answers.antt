use Rattle.cycle_sim.proofs.Common.{◌≡◌, ℕ, ◌≤◌, List, ◌++◌, length, take, drop, sym, ◌∙◌, ap, subst, length-map, Word, Nets, plain, bits_at, Holds, drivers, Plan, Simulated, HaveWidths, numbers_of}
use Rattle.cycle_sim.proofs.Common.{settled_nets, AreReaders}
use Rattle.cycle_sim.proofs.Fronts.{word-inside, laid-front-is}
use Rattle.cycle_sim.proofs.sim.Sim.settle.Goals as goal

have-of : (plan now : Plan) (words : List Word) → plan ≡ now → HaveWidths (bits_at now.raw.inputs) words → HaveWidths (bits_at plan.raw.inputs) words
have-of plan now words same have = subst (λ (p : Plan). HaveWidths (bits_at p.raw.inputs) words) (sym same) have

front-is : (plan : Plan) (words : List Word) (k : ℕ) (old table : List ℕ) → HaveWidths (bits_at plan.raw.inputs) words → table ≡ numbers_of words ++ drop k old → take (length plan.raw.inputs) table ≡ numbers_of words
front-is plan words k old table have is = laid-front-is (length plan.raw.inputs) k (numbers_of words) old table is (length-map words (λ (w : Word). w.bits) ∙ word-inside plan.raw words have)

pub lay_words-requires-clause-widths : goal.lay_words-requires-clause-widths
lay_words-requires-clause-widths c = have-of c.self.inside.netlist c.args.self.now.plan c.args.inputs.now (ap (λ (s : Simulated). s.plan) c.self.view_is) c.requires.widths

pub lay_words-requires-clause-held : goal.lay_words-requires-clause-held
lay_words-requires-clause-held c = record { fit = c.self.invariant.numbers; current = c.self.invariant.current }

pub lay_words-requires-clause-readers : goal.lay_words-requires-clause-readers
lay_words-requires-clause-readers c = subst (AreReaders c.self.inside.netlist) (sym c.as_slice.ensures.value) c.self.invariant.reading

pub invariant_of-self : goal.invariant_of-self
invariant_of-self c = record {
  sound = c.self.invariant.sound;
  gates = c.self.invariant.gates;
  next = c.self.invariant.next;
  outputs = c.self.invariant.outputs;
  reading = c.self.invariant.reading;
  numbers = c.lay_words.ensures.held.fit;
  stored = c.self.invariant.stored;
  current = c.lay_words.ensures.held.current;
}

pub returns-clause-holds : goal.returns-clause-holds
returns-clause-holds c =
    let plan = c.self.inside.netlist in
    let given = front-is plan c.args.inputs.now (length c.args.inputs.now) c.self.inside.table.items c.lay_words.new.table.items (have-of plan c.args.self.now.plan c.args.inputs.now (ap (λ (s : Simulated). s.plan) c.self.view_is) c.requires.widths) c.lay_words.ensures.table in
    let nets : Nets = settled_nets c.settle_nets.new.self in
    let holds : Holds (plain nets) nets plan.raw (numbers_of c.args.inputs.now) c.self.inside.registers.items = subst (λ (l : List ℕ). Holds (plain nets) nets plan.raw l c.self.inside.registers.items) given c.settle_nets.ensures.holds in
    subst (λ (s : Simulated). Holds (plain nets) nets s.plan.raw (numbers_of c.args.inputs.now) s.registers) c.self.view_is holds

pub returns-clause-alone : goal.returns-clause-alone
returns-clause-alone c =
    let plan = c.self.inside.netlist in
    let given = front-is plan c.args.inputs.now (length c.args.inputs.now) c.self.inside.table.items c.lay_words.new.table.items (have-of plan c.args.self.now.plan c.args.inputs.now (ap (λ (s : Simulated). s.plan) c.self.view_is) c.requires.widths) c.lay_words.ensures.table in
    let alone : (nets : Nets) → Holds (plain nets) nets plan.raw (numbers_of c.args.inputs.now) c.self.inside.registers.items → (n : ℕ) → 1 ≤ drivers plan.raw n → nets n ≡ settled_nets c.settle_nets.new.self n = subst (λ (l : List ℕ). (nets : Nets) → Holds (plain nets) nets plan.raw l c.self.inside.registers.items → (n : ℕ) → 1 ≤ drivers plan.raw n → nets n ≡ settled_nets c.settle_nets.new.self n) given c.settle_nets.ensures.alone in
    subst (λ (s : Simulated). (nets : Nets) → Holds (plain nets) nets s.plan.raw (numbers_of c.args.inputs.now) s.registers → (n : ℕ) → 1 ≤ drivers s.plan.raw n → nets n ≡ settled_nets c.settle_nets.new.self n) c.self.view_is alone

pub returns-clause-plan : goal.returns-clause-plan
returns-clause-plan c = c.settle_nets.ensures.plan ∙ ap (λ (s : Simulated). s.plan) c.self.view_is

pub returns-clause-registers : goal.returns-clause-registers
returns-clause-registers c = c.settle_nets.ensures.registers ∙ ap (λ (s : Simulated). s.registers) c.self.view_is
