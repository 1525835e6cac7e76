use Rattle.cycle_sim.proofs.Common.{◌≡◌, ℕ, ◌^◌, ◌<◌, List, length, get_or, slice_get, Some, sym, ◌∙◌, ap, subst, refl, arith, length-map, get_or_default, slice_get_read, same_Some, Register}
use Rattle.cycle_sim.proofs.Common.{RawNetlist, q_bits, Plan, Simulated}
use Rattle.std.proofs.Common.{slice_index}
use Rattle.cycle_sim.proofs.Plans.{fit-length}
use Rattle.cycle_sim.proofs.Cycles.{stored-at}
use Rattle.cycle_sim.proofs.sim.Sim.register.Goals as goal

inside-of : (plan now : Plan) (i : ℕ) → plan ≡ now → i < length now.raw.registers → i < length plan.raw.registers
inside-of plan now i same inside = subst (λ (p : Plan). i < length p.raw.registers) (sym same) inside

at-of : (raw read : RawNetlist) (items : List Register) (i : ℕ) (r : Register) → read ≡ raw → items ≡ read.registers → r ≡ get_or items i r → r ≡ get_or raw.registers i r
at-of raw read items i r same is at = subst (λ (l : List Register). r ≡ get_or l i r) (is ∙ ap (λ (x : RawNetlist). x.registers) same) at

stored-length : (rs : List Register) (n : ℕ) → n ≡ length (q_bits rs) → n ≡ length rs
stored-length rs n is = is ∙ length-map rs (λ (r : Register). r.q)

width-is : (w : ℕ) (items : List Register) (i : ℕ) (r : Register) → w ≡ (get_or items i r).start.width → r ≡ get_or items i r → w ≡ r.start.width
width-is w items i r is at = is ∙ ap (λ (x : Register). x.start.width) (sym at)

pub index-requires : goal.index-requires
index-requires c =
    let plan = c.self.inside.netlist in
    let inside = inside-of plan c.args.self.now.plan c.args.number (ap (λ (s : Simulated). s.plan) c.self.view_is) c.requires in
    let long = stored-length plan.raw.registers (length c.self.inside.registers.items) (fit-length (q_bits plan.raw.registers) c.self.inside.registers.items c.self.invariant.stored) in
    omega (arith, inside, long, c.self.inside.registers.ok.0)

pub word_of-requires-clause-fits : goal.word_of-requires-clause-fits
word_of-requires-clause-fits c =
    let plan = c.self.inside.netlist in
    let r = c.index-as_slice-number.result in
    let inside = inside-of plan c.args.self.now.plan c.args.number (ap (λ (s : Simulated). s.plan) c.self.view_is) c.requires in
    let at = at-of plan.raw c.raw.result.now c.as_slice.result.now c.args.number r c.raw.ensures.value c.as_slice.ensures c.index-as_slice-number.is in
    let fits = (stored-at plan.raw.registers c.self.inside.registers.items c.args.number c.index.result.now r c.self.invariant.sound.formed.registers c.self.invariant.stored inside at).0 in
    subst (λ (w : ℕ). c.index.result.now < 2 ^ w) (sym (width-is c.width.result c.as_slice.result.now c.args.number r c.width.ensures.width c.index-as_slice-number.is)) (subst (λ (v : ℕ). v < 2 ^ r.start.width) (sym c.index.ensures) fits)

pub returns-clause-width : goal.returns-clause-width
returns-clause-width c = λ r is.
    let plan = c.self.inside.netlist in
    let found = c.index-as_slice-number.result in
    let plan_is : plan ≡ c.args.self.now.plan = ap (λ (s : Simulated). s.plan) c.self.view_is in
    let inside = inside-of plan c.args.self.now.plan c.args.number plan_is c.requires in
    let at = at-of plan.raw c.raw.result.now c.as_slice.result.now c.args.number found c.raw.ensures.value c.as_slice.ensures c.index-as_slice-number.is in
    let same_width = (stored-at plan.raw.registers c.self.inside.registers.items c.args.number 0 found c.self.invariant.sound.formed.registers c.self.invariant.stored inside at).1 in
    let there : slice_get plan.raw.registers c.args.number ≡ Some found = slice_get_read plan.raw.registers (length plan.raw.registers) c.args.number found refl inside at in
    let asked : slice_get plan.raw.registers c.args.number ≡ Some r = subst (λ (q : Plan). slice_get q.raw.registers c.args.number ≡ Some r) (sym plan_is) is in
    let same : found ≡ r = same_Some found r (sym there ∙ asked) in
    c.word_of.ensures.width ∙ width-is c.width.result c.as_slice.result.now c.args.number found c.width.ensures.width c.index-as_slice-number.is ∙ same_width ∙ ap (λ (x : Register). length x.q) same

pub returns-clause-bits : goal.returns-clause-bits
returns-clause-bits c =
    let plan = c.self.inside.netlist in
    let vs : List ℕ = c.self.inside.registers.items in
    let inside = inside-of plan c.args.self.now.plan c.args.number (ap (λ (s : Simulated). s.plan) c.self.view_is) c.requires in
    let long = stored-length plan.raw.registers (length vs) (fit-length (q_bits plan.raw.registers) vs c.self.invariant.stored) in
    let value : c.word_of.result.bits ≡ slice_index vs c.args.number = c.word_of.ensures.bits ∙ c.index.ensures ∙ get_or_default vs c.args.number c.index.result.now 0 (omega (arith, inside, long)) in
    subst (λ (s : Simulated). c.word_of.result.bits ≡ slice_index s.registers c.args.number) c.self.view_is value
