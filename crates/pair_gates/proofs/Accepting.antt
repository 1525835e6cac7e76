-- A mutant of a netlist within the limits of a design is accepted.
use Rattle.pair_gates.proofs.Common.{◌≡◌, ◌+◌, List, refl, ap, ◌∙◌, arith, Bit, RawNetlist, bits_at, q_bits, all_bits, free_bits, HasOneMore, MutantsAreAccepted, AcceptedWantMemory}
use Rattle.netlist_core.specs.declared.port.Port as port
use Rattle.pair_gates.specs.declared.error.EncodeError.TheVariants.{PortsDiffer, RegistersDiffer, TooManyFree, TooManyGates, Memory}
use Rattle.pair_gates.proofs.MutantsAlike.{mutants-are-alike, alike-are-not-apart}
use Rattle.pair_gates.proofs.Weighing.{pair-few, mutant-light}

free-same : (netlist mutant : RawNetlist) → HasOneMore netlist mutant → free_bits mutant ≡ free_bits netlist
free-same netlist mutant more =
    ap (λ (ports : List port.Port). all_bits (bits_at ports) + all_bits (q_bits mutant.registers)) more.inputs
    ∙ ap (λ (qs : List (List Bit)). all_bits (bits_at netlist.inputs) + all_bits qs) more.registers

pub mutants-are-accepted : MutantsAreAccepted
mutants-are-accepted netlist mutant mode sound sound_mutant more names shapes few_free few =
    let same : free_bits mutant.raw ≡ free_bits netlist.raw = free-same netlist.raw mutant.raw more in
    let light = mutant-light netlist.raw mutant.raw mode shapes in
    let gates = pair-few netlist mutant sound sound_mutant (omega (arith, same)) in
    record {
      alike = mutants-are-alike netlist.raw mutant.raw more names;
      few_free = few_free;
      few_gates = omega (arith, light, gates, few);
    }

pub accepted-want-memory : AcceptedWantMemory
accepted-want-memory a b accepted (PortsDiffer name) refused = absurd ((alike-are-not-apart a.raw b.raw accepted.alike name).0 refused)
accepted-want-memory a b accepted (RegistersDiffer name) refused = absurd ((alike-are-not-apart a.raw b.raw accepted.alike name).1 refused.1)
accepted-want-memory a b accepted (TooManyFree bits) refused = absurd (omega (arith, refused.1, refused.2, accepted.few_free))
accepted-want-memory a b accepted TooManyGates refused = absurd (omega (arith, refused.2, accepted.few_gates))
accepted-want-memory a b accepted Memory refused = refl
