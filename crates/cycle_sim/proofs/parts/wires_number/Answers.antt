use Rattle.cycle_sim.proofs.Common.{◌≡◌, ℕ, ◌+◌, ◌*◌, ◌^◌, ◌<◌, List, [], ◌∷◌, length, sym, ◌∙◌, ap, subst, arith, Part, Reading, Number, Whole, Single, Wires, part_number, parts_number, total}
use Rattle.cycle_sim.proofs.Common.{AllInside, IsRead, IsReadable}
use Rattle.cycle_sim.proofs.parts.wires_number.Goals as goal

read-as : (table : List ℕ) (wires : Wires) (reading : Reading) → IsReadable table wires → wires.reading ≡ reading → IsRead table reading wires.width wires.parts
read-as table wires reading readable is = subst (λ (r : Reading). IsRead table r wires.width wires.parts) is readable.read

-- a single part has the whole width, and the whole number
single-width : (table : List ℕ) (wires : Wires) (part : Part) → IsReadable table wires → wires.parts ≡ part ∷ [] → part.width ≡ wires.width
single-width table wires part readable is =
    let one : total wires.parts ≡ part.width + 0 = ap total is in
    let all = readable.total in
    omega (arith, one, all)

single-number : (table : List ℕ) (parts : List Part) (part : Part) → parts ≡ part ∷ [] → part_number table part ≡ parts_number table parts
single-number table parts part is =
    let one : part_number table part + 2 ^ part.width * 0 ≡ part_number table part = omega arith in
    sym one ∙ sym (ap (parts_number table) is)

single-inside : (table : List ℕ) (wires : Wires) (part : Part) → IsReadable table wires → wires.parts ≡ part ∷ [] → AllInside (length table) (part ∷ [])
single-inside table wires part readable is = subst (AllInside (length table)) is readable.inside

pub bounds-table-driver : goal.bounds-table-driver
bounds-table-driver c = (let r = read-as c.args.table.now c.args.wires.now (Whole c.in-Whole.driver) c.requires c.in-Whole.is in omega (arith, r.0))

pub number_at-requires-clause-some : goal.number_at-requires-clause-some
number_at-requires-clause-some c =
    let is = read-as c.args.table.now c.args.wires.now (Single c.in-Single.part) c.requires c.in-Single.is in
    (single-inside c.args.table.now c.args.wires.now c.in-Single.part c.requires is).0

pub number_at-requires-clause-narrow : goal.number_at-requires-clause-narrow
number_at-requires-clause-narrow c =
    let is = read-as c.args.table.now c.args.wires.now (Single c.in-Single.part) c.requires c.in-Single.is in
    let wide = single-width c.args.table.now c.args.wires.now c.in-Single.part c.requires is in
    omega (arith, wide, c.requires.narrow)

pub number_at-requires-clause-inside : goal.number_at-requires-clause-inside
number_at-requires-clause-inside c =
    let is = read-as c.args.table.now c.args.wires.now (Single c.in-Single.part) c.requires c.in-Single.is in
    (single-inside c.args.table.now c.args.wires.now c.in-Single.part c.requires is).1

pub number_of-requires-clause-narrow : goal.number_of-requires-clause-narrow
number_of-requires-clause-narrow c = (let same = ap total c.as_slice.ensures in omega (arith, same, c.requires.total, c.requires.narrow))

pub number_of-requires-clause-inside : goal.number_of-requires-clause-inside
number_of-requires-clause-inside c = subst (AllInside (length c.args.table.now)) (sym c.as_slice.ensures) c.requires.inside

pub returns-in-Number-clause-value : goal.returns-in-Number-clause-value
returns-in-Number-clause-value c = sym (read-as c.args.table.now c.args.wires.now (Number c.in-Number.number) c.requires c.in-Number.is).0

pub returns-in-Number-clause-fits : goal.returns-in-Number-clause-fits
returns-in-Number-clause-fits c = (read-as c.args.table.now c.args.wires.now (Number c.in-Number.number) c.requires c.in-Number.is).1

pub returns-in-Whole-clause-value : goal.returns-in-Whole-clause-value
returns-in-Whole-clause-value c = sym (read-as c.args.table.now c.args.wires.now (Whole c.in-Whole.driver) c.requires c.in-Whole.is).1

pub returns-in-Whole-clause-fits : goal.returns-in-Whole-clause-fits
returns-in-Whole-clause-fits c = (read-as c.args.table.now c.args.wires.now (Whole c.in-Whole.driver) c.requires c.in-Whole.is).2

pub returns-in-Single-clause-value : goal.returns-in-Single-clause-value
returns-in-Single-clause-value c =
    let is = read-as c.args.table.now c.args.wires.now (Single c.in-Single.part) c.requires c.in-Single.is in
    c.number_at.ensures.value ∙ single-number c.args.table.now c.args.wires.now.parts c.in-Single.part is

pub returns-in-Single-clause-fits : goal.returns-in-Single-clause-fits
returns-in-Single-clause-fits c =
    let is = read-as c.args.table.now c.args.wires.now (Single c.in-Single.part) c.requires c.in-Single.is in
    subst (λ (w : ℕ). c.number_at.result < 2 ^ w) (single-width c.args.table.now c.args.wires.now c.in-Single.part c.requires is) c.number_at.ensures.fits

pub returns-in-Several-clause-fits : goal.returns-in-Several-clause-fits
returns-in-Several-clause-fits c = subst (λ (w : ℕ). c.number_of.result < 2 ^ w) (ap total c.as_slice.ensures ∙ c.requires.total) c.number_of.ensures.fits
