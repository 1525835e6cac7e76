use Rattle.equiv_test.proofs.Common.{◌≡◌, ℕ, List, length, sym, ap, ◌∙◌, arith, Port, Register, RawNetlist, bits_at, q_bits, Plan, numbers_of, settled_nets, ports-same, registers-same}
use Rattle.equiv_test.proofs.Apart.{have-same, taken-long}
use Rattle.equiv_test.proofs.Placing.{outputs-few, stored-few, outputs-alike, registers-alike, output-differs, register-differs, none-differs}
use Rattle.equiv_test.proofs.place.first_place.Goals as goal

pub overflow_cast-outputs : goal.overflow_cast-outputs
overflow_cast-outputs c =
    let is : c.as_slice.result.now ≡ c.args.original.now.plan.raw.outputs = c.as_slice.ensures ∙ ap (λ (r : RawNetlist). r.outputs) c.raw.ensures.value ∙ ap (λ (p : Plan). p.raw.outputs) c.netlist.ensures in
    let long = ap (λ (l : List Port). length l) is in
    let few = outputs-few c.args.original.now.plan c.requires.original in
    omega (arith, long, few)

pub overflow_cast-stored : goal.overflow_cast-stored
overflow_cast-stored c =
    let is : c.as_slice-2.result.now ≡ c.args.original.now.plan.raw.registers = c.as_slice-2.ensures ∙ ap (λ (r : RawNetlist). r.registers) c.raw-2.ensures.value ∙ ap (λ (p : Plan). p.raw.registers) c.netlist-2.ensures in
    let long = ap (λ (l : List Register). length l) is in
    let few = stored-few c.args.original.now.plan c.requires.original in
    omega (arith, long, few)

pub settle_at-requires-2-clause-inputs : goal.settle_at-requires-2-clause-inputs
settle_at-requires-2-clause-inputs c =
    let a : RawNetlist = c.args.original.now.plan.raw in
    let b : RawNetlist = c.args.mutant.now.plan.raw in
    have-same (bits_at a.inputs) (bits_at b.inputs) c.args.inputs.now (ports-same a.inputs b.inputs c.requires.alike.0.inputs) c.requires.inputs

pub settle_at-requires-2-clause-registers : goal.settle_at-requires-2-clause-registers
settle_at-requires-2-clause-registers c =
    let a : RawNetlist = c.args.original.now.plan.raw in
    let b : RawNetlist = c.args.mutant.now.plan.raw in
    have-same (q_bits a.registers) (q_bits b.registers) c.args.registers.now (registers-same a.registers b.registers c.requires.alike.1) c.requires.registers

pub first_output-requires-clause-count : goal.first_output-requires-clause-count
first_output-requires-clause-count c =
    let is : c.as_slice.result.now ≡ c.args.original.now.plan.raw.outputs = c.as_slice.ensures ∙ ap (λ (r : RawNetlist). r.outputs) c.raw.ensures.value ∙ ap (λ (p : Plan). p.raw.outputs) c.netlist.ensures in
    ap (λ (p : Plan). length p.raw.outputs) c.settle_at.ensures.plan ∙ sym (ap (λ (l : List Port). length l) is)

pub first_output-requires-clause-same : goal.first_output-requires-clause-same
first_output-requires-clause-same c =
    let is : c.as_slice.result.now ≡ c.args.original.now.plan.raw.outputs = c.as_slice.ensures ∙ ap (λ (r : RawNetlist). r.outputs) c.raw.ensures.value ∙ ap (λ (p : Plan). p.raw.outputs) c.netlist.ensures in
    ap (λ (p : Plan). length p.raw.outputs) c.settle_at-2.ensures.plan ∙ outputs-alike c.args.original.now.plan.raw c.args.mutant.now.plan.raw c.requires.alike ∙ sym (ap (λ (l : List Port). length l) is)

pub returns-in-Some-clause-place : goal.returns-in-Some-clause-place
returns-in-Some-clause-place c =
    output-differs c.args.original.now.plan c.args.mutant.now.plan (numbers_of c.args.inputs.now) (numbers_of c.args.registers.now) (settled_nets c.settle_at.new.sim) (settled_nets c.settle_at-2.new.sim) c.settle_at.ensures.holds c.settle_at-2.ensures.holds
    c.settle_at.new.sim.plan c.settle_at-2.new.sim.plan c.settle_at.ensures.plan c.settle_at-2.ensures.plan c.in-Some.place c.in-Some.ensures

pub first_register-requires-clause-count : goal.first_register-requires-clause-count
first_register-requires-clause-count c =
    let is : c.as_slice-2.result.now ≡ c.args.original.now.plan.raw.registers = c.as_slice-2.ensures ∙ ap (λ (r : RawNetlist). r.registers) c.raw-2.ensures.value ∙ ap (λ (p : Plan). p.raw.registers) c.netlist-2.ensures in
    ap (λ (l : List ℕ). length l) c.clock.ensures.taken ∙ taken-long (settled_nets c.settle_at.new.sim) 0 c.settle_at.new.sim.plan.raw.registers
    ∙ ap (λ (p : Plan). length p.raw.registers) c.settle_at.ensures.plan ∙ sym (ap (λ (l : List Register). length l) is)

pub first_register-requires-clause-same : goal.first_register-requires-clause-same
first_register-requires-clause-same c =
    let is : c.as_slice-2.result.now ≡ c.args.original.now.plan.raw.registers = c.as_slice-2.ensures ∙ ap (λ (r : RawNetlist). r.registers) c.raw-2.ensures.value ∙ ap (λ (p : Plan). p.raw.registers) c.netlist-2.ensures in
    ap (λ (l : List ℕ). length l) c.clock-2.ensures.taken ∙ taken-long (settled_nets c.settle_at-2.new.sim) 0 c.settle_at-2.new.sim.plan.raw.registers
    ∙ ap (λ (p : Plan). length p.raw.registers) c.settle_at-2.ensures.plan ∙ registers-alike c.args.original.now.plan.raw c.args.mutant.now.plan.raw c.requires.alike ∙ sym (ap (λ (l : List Register). length l) is)

pub first_register-requires-clause-here : goal.first_register-requires-clause-here
first_register-requires-clause-here c =
    let is : c.as_slice-2.result.now ≡ c.args.original.now.plan.raw.registers = c.as_slice-2.ensures ∙ ap (λ (r : RawNetlist). r.registers) c.raw-2.ensures.value ∙ ap (λ (p : Plan). p.raw.registers) c.netlist-2.ensures in
    ap (λ (p : Plan). length p.raw.registers) (c.clock.ensures.plan ∙ c.settle_at.ensures.plan) ∙ sym (ap (λ (l : List Register). length l) is)

pub first_register-requires-clause-there : goal.first_register-requires-clause-there
first_register-requires-clause-there c =
    let is : c.as_slice-2.result.now ≡ c.args.original.now.plan.raw.registers = c.as_slice-2.ensures ∙ ap (λ (r : RawNetlist). r.registers) c.raw-2.ensures.value ∙ ap (λ (p : Plan). p.raw.registers) c.netlist-2.ensures in
    ap (λ (p : Plan). length p.raw.registers) (c.clock-2.ensures.plan ∙ c.settle_at-2.ensures.plan) ∙ registers-alike c.args.original.now.plan.raw c.args.mutant.now.plan.raw c.requires.alike ∙ sym (ap (λ (l : List Register). length l) is)

pub returns-in-Some-first_register-clause-place : goal.returns-in-Some-first_register-clause-place
returns-in-Some-first_register-clause-place c =
    register-differs c.args.original.now.plan c.args.mutant.now.plan (numbers_of c.args.inputs.now) (numbers_of c.args.registers.now) (settled_nets c.settle_at.new.sim) (settled_nets c.settle_at-2.new.sim) c.settle_at.ensures.holds c.settle_at-2.ensures.holds
    c.settle_at.new.sim.plan c.settle_at-2.new.sim.plan c.settle_at.ensures.plan c.settle_at-2.ensures.plan
    c.in_default.ensures c.clock.new.self.registers c.clock-2.new.self.registers c.clock.ensures.taken c.clock-2.ensures.taken c.in-Some-first_register.place c.in-Some-first_register.ensures

pub returns-in-None-clause-place : goal.returns-in-None-clause-place
returns-in-None-clause-place c =
    none-differs c.args.original.now.plan c.args.mutant.now.plan (numbers_of c.args.inputs.now) (numbers_of c.args.registers.now) (settled_nets c.settle_at.new.sim) (settled_nets c.settle_at-2.new.sim) c.settle_at.ensures.holds c.settle_at-2.ensures.holds
    c.settle_at.new.sim.plan c.settle_at-2.new.sim.plan c.settle_at.ensures.plan c.settle_at-2.ensures.plan
    c.in_default.ensures c.clock.new.self.registers c.clock-2.new.self.registers c.clock.ensures.taken c.clock-2.ensures.taken
    c.one_run.ensures.answer c.requires.original c.requires.mutant c.in-None.ensures
