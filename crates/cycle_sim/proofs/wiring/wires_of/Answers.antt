use Rattle.cycle_sim.proofs.Common.{◌≡◌, ℕ, ◌<◌, ◌≤◌, false, List, [], ◌∷◌, ◌++◌, length, take, get_or, sym, ◌∙◌, ap, subst, refl, arith, take_more, take_all, Bit, Fixed, times, Part, all_bits}
use Rattle.cycle_sim.proofs.Common.{AllWhole, IsReading}
use Rattle.cycle_sim.proofs.Placed.{times-at}
use Rattle.cycle_sim.proofs.wiring.wires_of.Goals as goal

among : (bits : List Bit) (i n : ℕ) → i < length bits → 1 ≤ times n (get_or bits i (Fixed false) ∷ []) → 1 ≤ times n bits
among bits i n inside some = (let all = times-at n bits i (Fixed false) inside in omega (arith, some, all))

pub source_of-requires : goal.source_of-requires
source_of-requires c = λ n some. c.requires.below n (among c.args.bits.now c.loop-bit.bit-index n c.loop-bit-test.true some)

pub loop-bit-preserved : goal.loop-bit-preserved
loop-bit-preserved c = λ drivers placed.
    let bits : List Bit = c.args.bits.now in
    let i : ℕ = c.loop-bit.bit-index in
    let bit : Bit = get_or bits i (Fixed false) in
    let was = c.loop-bit.invariant drivers placed in
    let one = c.source_of.ensures drivers (λ n some. placed n (among bits i n c.loop-bit-test.true some)) in
    let grown = c.in_ok-add_bit.ensures drivers bit was.0 one in
    (grown.0, grown.1 ∙ ap (λ (l : List Bit). l ++ bit ∷ []) was.1 ∙ sym (take_more bits i (Fixed false) c.loop-bit-test.true))

pub returns : goal.returns
returns c = λ drivers placed widths_are.
    let bits : List Bit = c.args.bits.now in
    let was = c.loop-bit.invariant drivers placed in
    let all : take c.loop-bit.bit-index bits ≡ bits = take_all c.loop-bit.bit-index bits c.loop-bit-test.false in
    let read = subst (λ (p : List Part). all_bits drivers p ≡ bits → AllWhole drivers p → IsReading drivers c.reading_of.result bits p) c.as_slice.ensures.value (c.reading_of.ensures drivers widths_are) in
    record {
      width = refl;
      bits = ap (all_bits drivers) c.from_vec.ensures ∙ was.1 ∙ all;
      whole = subst (AllWhole drivers) (sym c.from_vec.ensures) was.0;
      reading = subst (IsReading drivers c.reading_of.result bits) (sym c.from_vec.ensures) (read (was.1 ∙ all) was.0);
    }
