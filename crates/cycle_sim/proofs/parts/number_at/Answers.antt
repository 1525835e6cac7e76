use Rattle.cycle_sim.proofs.Common.{◌≡◌, ℕ, ◌-◌, ◌/◌, ◌^◌, ◌<◌, Bool, true, List, get_or, sym, subst, arith, mod_below, pow_pos, Source, Constant, source_number}
use Rattle.cycle_sim.proofs.PartNumbers.{ones-down, masked}
use Rattle.cycle_sim.proofs.parts.number_at.Goals as goal

constant-true : (table : List ℕ) (source : Source) (b : Bool) (n w : ℕ) → source ≡ Constant b → b ≡ true → n ≡ 2 ^ w - 1 → n ≡ source_number table source w
constant-true table source b n w is yes_b e = subst (λ (s : Source). n ≡ source_number table s w) (sym is) (subst (λ (x : Bool). n ≡ source_number table (Constant x) w) (sym yes_b) e)

pub returns-then-bit-clause-value : goal.returns-then-bit-clause-value
returns-then-bit-clause-value c = constant-true c.args.table.now c.args.part.first c.in-Constant.bit (340282366920938463463374607431768211455 / 2 ^ (128 - c.args.part.width)) c.args.part.width c.in-Constant.is c.if-bit.true (ones-down c.args.part.width c.requires.narrow)

pub returns-then-bit-clause-fits : goal.returns-then-bit-clause-fits
returns-then-bit-clause-fits c = (let ones = ones-down c.args.part.width c.requires.narrow in let some = pow_pos c.args.part.width in omega (arith, ones, some))

pub returns-in-Driver-clause-value : goal.returns-in-Driver-clause-value
returns-in-Driver-clause-value c = rw c.in-Driver.is (masked (get_or c.args.table.now c.in-Driver.place.driver 0 / 2 ^ c.in-Driver.place.bit) c.args.part.width c.requires.narrow)

pub returns-in-Driver-clause-fits : goal.returns-in-Driver-clause-fits
returns-in-Driver-clause-fits c =
    let w : ℕ = c.args.part.width in
    let n : ℕ = get_or c.args.table.now c.in-Driver.place.driver 0 / 2 ^ c.in-Driver.place.bit in
    subst (λ (x : ℕ). x < 2 ^ w) (sym (masked n w c.requires.narrow)) (mod_below n (2 ^ w) (pow_pos w))
