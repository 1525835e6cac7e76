use Rattle.equiv_test.proofs.Common.{ℕ, List, sym, subst, Nets, plain, Holds, bits_at, Plan, HaveWidths, numbers_of, settled_nets}
use Rattle.equiv_test.proofs.place.settle_at.Goals as goal

pub settle-requires : goal.settle-requires
settle-requires c = record { widths = subst (λ (p : Plan). HaveWidths (bits_at p.raw.inputs) c.args.inputs.now) (sym c.load.ensures.plan) c.requires.inputs }

pub returns-clause-holds : goal.returns-clause-holds
returns-clause-holds c =
    let nets : Nets = settled_nets c.settle.new.self in
    subst (λ (p : Plan). Holds (plain nets) nets p.raw (numbers_of c.args.inputs.now) (numbers_of c.args.registers.now)) c.load.ensures.plan
    (subst (λ (state : List ℕ). Holds (plain nets) nets c.load.new.self.plan.raw (numbers_of c.args.inputs.now) state) c.load.ensures.registers c.settle.ensures.holds)
