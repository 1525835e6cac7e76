use Rattle.cycle_sim.proofs.Common.{◌≡◌, ℕ, List, ◌++◌, length, drop, sym, ◌∙◌, ap, subst, arith, append-nil, drop_all, Word, q_bits, Plan, FitPorts, Simulated, HaveWidths, numbers_of}
use Rattle.cycle_sim.proofs.Plans.{fit-length, fit-words, words-length}
use Rattle.cycle_sim.proofs.sim.Sim.load.Goals as goal

have-of : (plan now : Plan) (words : List Word) → plan ≡ now → HaveWidths (q_bits now.raw.registers) words → HaveWidths (q_bits plan.raw.registers) words
have-of plan now words same have = subst (λ (p : Plan). HaveWidths (q_bits p.raw.registers) words) (sym same) have

-- as many words as numbers
as-long : (plan : Plan) (words : List Word) (numbers : List ℕ) → HaveWidths (q_bits plan.raw.registers) words → FitPorts (q_bits plan.raw.registers) numbers → length numbers ≡ length words
as-long plan words numbers have fit = fit-length (q_bits plan.raw.registers) numbers fit ∙ sym (words-length (q_bits plan.raw.registers) words have)

laid-all : (words : List Word) (old new : List ℕ) → length old ≡ length words → new ≡ numbers_of words ++ drop (length words) old → new ≡ numbers_of words
laid-all words old new long is = is ∙ ap (λ (l : List ℕ). numbers_of words ++ l) (drop_all (length words) old (omega (arith, long))) ∙ append-nil (numbers_of words)

pub load_words-requires : goal.load_words-requires
load_words-requires c =
    let plan = c.self.inside.netlist in
    let have = have-of plan c.args.self.now.plan c.args.words.now (ap (λ (s : Simulated). s.plan) c.self.view_is) c.requires.widths in
    let long = as-long plan c.args.words.now c.self.inside.registers.items have c.self.invariant.stored in
    omega (arith, long)

pub invariant_of-self : goal.invariant_of-self
invariant_of-self c =
    let plan = c.self.inside.netlist in
    let have = have-of plan c.args.self.now.plan c.args.words.now (ap (λ (s : Simulated). s.plan) c.self.view_is) c.requires.widths in
    let long = as-long plan c.args.words.now c.self.inside.registers.items have c.self.invariant.stored in
    record {
      sound = c.self.invariant.sound;
      gates = c.self.invariant.gates;
      next = c.self.invariant.next;
      outputs = c.self.invariant.outputs;
      reading = c.self.invariant.reading;
      current = c.self.invariant.current;
      numbers = c.self.invariant.numbers;
      stored = subst (FitPorts (q_bits plan.raw.registers)) (sym (laid-all c.args.words.now c.self.inside.registers.items c.load_words.new.registers.items long c.load_words.ensures)) (fit-words (q_bits plan.raw.registers) c.args.words.now have);
    }

pub returns-clause-registers : goal.returns-clause-registers
returns-clause-registers c =
    let plan = c.self.inside.netlist in
    let have = have-of plan c.args.self.now.plan c.args.words.now (ap (λ (s : Simulated). s.plan) c.self.view_is) c.requires.widths in
    let long = as-long plan c.args.words.now c.self.inside.registers.items have c.self.invariant.stored in
    laid-all c.args.words.now c.self.inside.registers.items c.load_words.new.registers.items long c.load_words.ensures
