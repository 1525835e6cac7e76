use Rattle.cycle_sim.proofs.Common.{ℕ, ◌+◌, ◌%◌, ◌^◌, Bool, List, [], ◌∷◌, bit_and, bit_or, sym, ◌∙◌, subst, bit_xor, And, Or, Xor, Add, Eq, shape_of, HasWidths, HasValue, wires_bits}
use Rattle.cycle_sim.proofs.Gates.{word-is}
use Rattle.cycle_sim.proofs.ByNumbers.{read-bits, of-kind, by-and, by-or, by-xor, by-add, by-eq}
use Rattle.cycle_sim.proofs.computing.of_numbers.Goals as goal

pub number_of_two-requires : goal.number_of_two-requires
number_of_two-requires c = subst (λ (l : List ℕ). HasWidths (shape_of c.args.gate.now.kind) l) (λ i. sym c.word_of-left.ensures.width i ∷ sym c.word_of-right.ensures.width i ∷ c.args.gate.now.width ∷ []) c.requires.shape

pub returns-in-And : goal.returns-in-And
returns-in-And c =
    let table = c.args.table.now in
    let gate = c.args.gate.now in
    let first = read-bits table c.args.a.now c.wires_number-first.result c.wires_number-first.ensures.value c.wires_number-first.ensures.fits in
    let second = read-bits table c.args.b.now c.wires_number-second.result c.wires_number-second.ensures.value c.wires_number-second.ensures.fits in
    of-kind gate.kind And (bit_and c.wires_number-first.result c.wires_number-second.result) gate.is_signed gate.width (wires_bits table c.args.a.now ∷ wires_bits table c.args.b.now ∷ []) c.in-And.is (by-and (wires_bits table c.args.a.now) (wires_bits table c.args.b.now) c.wires_number-first.result c.wires_number-second.result gate.is_signed gate.width first second)

pub returns-in-Or : goal.returns-in-Or
returns-in-Or c =
    let table = c.args.table.now in
    let gate = c.args.gate.now in
    let first = read-bits table c.args.a.now c.wires_number-first.result c.wires_number-first.ensures.value c.wires_number-first.ensures.fits in
    let second = read-bits table c.args.b.now c.wires_number-second.result c.wires_number-second.ensures.value c.wires_number-second.ensures.fits in
    of-kind gate.kind Or (bit_or c.wires_number-first.result c.wires_number-second.result) gate.is_signed gate.width (wires_bits table c.args.a.now ∷ wires_bits table c.args.b.now ∷ []) c.in-Or.is (by-or (wires_bits table c.args.a.now) (wires_bits table c.args.b.now) c.wires_number-first.result c.wires_number-second.result gate.is_signed gate.width first second)

pub returns-in-Xor : goal.returns-in-Xor
returns-in-Xor c =
    let table = c.args.table.now in
    let gate = c.args.gate.now in
    let first = read-bits table c.args.a.now c.wires_number-first.result c.wires_number-first.ensures.value c.wires_number-first.ensures.fits in
    let second = read-bits table c.args.b.now c.wires_number-second.result c.wires_number-second.ensures.value c.wires_number-second.ensures.fits in
    of-kind gate.kind Xor (bit_xor c.wires_number-first.result c.wires_number-second.result) gate.is_signed gate.width (wires_bits table c.args.a.now ∷ wires_bits table c.args.b.now ∷ []) c.in-Xor.is (by-xor (wires_bits table c.args.a.now) (wires_bits table c.args.b.now) c.wires_number-first.result c.wires_number-second.result gate.is_signed gate.width first second)

pub returns-in-Add : goal.returns-in-Add
returns-in-Add c =
    let table = c.args.table.now in
    let gate = c.args.gate.now in
    let first = read-bits table c.args.a.now c.wires_number-first.result c.wires_number-first.ensures.value c.wires_number-first.ensures.fits in
    let second = read-bits table c.args.b.now c.wires_number-second.result c.wires_number-second.ensures.value c.wires_number-second.ensures.fits in
    of-kind gate.kind Add ((c.wires_number-first.result + c.wires_number-second.result) % 2 ^ 128) gate.is_signed gate.width (wires_bits table c.args.a.now ∷ wires_bits table c.args.b.now ∷ []) c.in-Add.is (by-add (wires_bits table c.args.a.now) (wires_bits table c.args.b.now) c.wires_number-first.result c.wires_number-second.result gate.is_signed gate.width first second c.requires.narrow)

pub returns-in-Eq : goal.returns-in-Eq
returns-in-Eq c =
    let table = c.args.table.now in
    let gate = c.args.gate.now in
    let first = read-bits table c.args.a.now c.wires_number-first.result c.wires_number-first.ensures.value c.wires_number-first.ensures.fits in
    let second = read-bits table c.args.b.now c.wires_number-second.result c.wires_number-second.ensures.value c.wires_number-second.ensures.fits in
    of-kind gate.kind Eq (c.digit_of.result) gate.is_signed gate.width (wires_bits table c.args.a.now ∷ wires_bits table c.args.b.now ∷ []) c.in-Eq.is (by-eq (wires_bits table c.args.a.now) (wires_bits table c.args.b.now) c.wires_number-first.result c.wires_number-second.result gate.is_signed gate.width first second c.digit_of.result c.digit_of.ensures)

pub returns-in_default : goal.returns-in_default
returns-in_default c =
    let table = c.args.table.now in
    let gate = c.args.gate.now in
    let left = word-is table c.args.a.now c.word_of-left.result c.word_of-left.ensures.width (c.word_of-left.ensures.bits ∙ c.wires_number-first.ensures.value) in
    let right = word-is table c.args.b.now c.word_of-right.result c.word_of-right.ensures.width (c.word_of-right.ensures.bits ∙ c.wires_number-second.ensures.value) in
    subst (λ (l : List (List Bool)). HasValue c.number_of_two.result gate.kind gate.is_signed gate.width l) (λ i. left i ∷ right i ∷ []) c.number_of_two.ensures
