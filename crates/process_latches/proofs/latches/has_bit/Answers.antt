use Rattle.process_latches.proofs.Common.{◌<◌, ◌^◌, ℕ, nat_eq, sym, ap, arith}
use Rattle.std.proofs.lemmas.Nat.Bits.{bit_at_above}
use Rattle.process_latches.proofs.latches.has_bit.Goals as goal

pub returns-else-place-lt128 : goal.returns-else-place-lt128
returns-else-place-lt128 c =
    let below : c.args.bits < 2 ^ 128 = omega (arith, c.ranges.bits) in
    sym (ap (λ (n : ℕ). nat_eq n 1) (bit_at_above c.args.bits 128 c.args.place below (omega arith)))
