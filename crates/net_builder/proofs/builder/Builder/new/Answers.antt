use Rattle.net_builder.proofs.Common.{◌≡◌, ◌∙◌, ap, length, map, refl, sym, arith, Bit, own_bits, word_widths, no_writers, writer_of}
use Rattle.net_builder.proofs.builder.Builder.new.Goals as goal

pub invariant_of-result : goal.invariant_of-result
invariant_of-result c =
    let cells : length c.new.result.items ≡ 0 = ap length c.new.ensures.items in
    let own : own_bits c.new-4.result.items ≡ 0 = ap own_bits c.new-4.ensures.items in
    let declared : length c.new-4.result.items ≡ 0 = ap length c.new-4.ensures.items in
    let signals : length c.new-5.result.items ≡ 0 = ap length c.new-5.ensures.items in
    let writers : no_writers ≡ writer_of c.new-2.result.items c.new-3.result.items = rw (c.new-2.ensures.items, c.new-3.ensures.items) refl in
    (omega (arith, cells), omega (arith, own), omega (arith, own, cells), omega (arith, declared, signals), omega (arith, declared, own), ap word_widths c.new-6.ensures.items ∙ sym (ap (map (length {A = Bit})) c.new-5.ensures.items), c.new-7.ensures ∙ writers, omega (arith, own))
