use Rattle.equiv_test.proofs.Common.{◌≡◌, ◌+◌, ℕ, List, sym, ap, subst, ◌∙◌, arith, Values, Word, Port, Register, RawNetlist, bits_at, q_bits, Plan, AllWide, all_bits, free_numbers, input_numbers}
use Rattle.equiv_test.proofs.Common.{register_numbers, listed_values, HaveWidths, numbers_of, Differ, DifferAt}
use Rattle.equiv_test.proofs.Apart.{registers-wide}
use Rattle.equiv_test.proofs.place.difference_at.Goals as goal

pub input_words-requires-clause-wide : goal.input_words-requires-clause-wide
input_words-requires-clause-wide c =
    let is : c.as_slice.result.now ≡ c.args.original.now.plan.raw.inputs = c.as_slice.ensures ∙ ap (λ (r : RawNetlist). r.inputs) c.raw-raw.ensures.value ∙ ap (λ (p : Plan). p.raw.inputs) c.netlist.ensures in
    subst (λ (l : List Port). AllWide (bits_at l)) (sym is) c.requires.original.formed.inputs

pub input_words-requires-clause-few : goal.input_words-requires-clause-few
input_words-requires-clause-few c =
    let is : c.as_slice.result.now ≡ c.args.original.now.plan.raw.inputs = c.as_slice.ensures ∙ ap (λ (r : RawNetlist). r.inputs) c.raw-raw.ensures.value ∙ ap (λ (p : Plan). p.raw.inputs) c.netlist.ensures in
    let wide = ap (λ (l : List Port). all_bits (bits_at l)) is in
    omega (arith, wide, c.requires.few)

pub register_words-requires-clause-wide : goal.register_words-requires-clause-wide
register_words-requires-clause-wide c =
    let is : c.as_slice-2.result.now ≡ c.args.original.now.plan.raw.registers = c.as_slice-2.ensures ∙ ap (λ (r : RawNetlist). r.registers) c.raw-raw.ensures.value ∙ ap (λ (p : Plan). p.raw.registers) c.netlist.ensures in
    subst (λ (l : List Register). AllWide (q_bits l)) (sym is) (registers-wide c.args.original.now.plan.raw.registers c.requires.original.formed.registers)

pub register_words-requires-clause-few : goal.register_words-requires-clause-few
register_words-requires-clause-few c =
    let inputs : c.as_slice.result.now ≡ c.args.original.now.plan.raw.inputs = c.as_slice.ensures ∙ ap (λ (r : RawNetlist). r.inputs) c.raw-raw.ensures.value ∙ ap (λ (p : Plan). p.raw.inputs) c.netlist.ensures in
    let registers : c.as_slice-2.result.now ≡ c.args.original.now.plan.raw.registers = c.as_slice-2.ensures ∙ ap (λ (r : RawNetlist). r.registers) c.raw-raw.ensures.value ∙ ap (λ (p : Plan). p.raw.registers) c.netlist.ensures in
    let wide = ap (λ (l : List Port). all_bits (bits_at l)) inputs in
    let more = ap (λ (l : List Register). all_bits (q_bits l)) registers in
    omega (arith, wide, more, c.in_ok-inputs.ensures.next, c.requires.few)

pub first_place-requires-clause-inputs : goal.first_place-requires-clause-inputs
first_place-requires-clause-inputs c =
    let is : c.as_slice.result.now ≡ c.args.original.now.plan.raw.inputs = c.as_slice.ensures ∙ ap (λ (r : RawNetlist). r.inputs) c.raw-raw.ensures.value ∙ ap (λ (p : Plan). p.raw.inputs) c.netlist.ensures in
    subst (λ (ws : List Word). HaveWidths (bits_at c.args.original.now.plan.raw.inputs) ws) (sym c.as_slice-3.ensures) (subst (λ (l : List Port). HaveWidths (bits_at l) c.in_ok-inputs.inputs) is c.in_ok-inputs.ensures.widths)

pub first_place-requires-clause-registers : goal.first_place-requires-clause-registers
first_place-requires-clause-registers c =
    let is : c.as_slice-2.result.now ≡ c.args.original.now.plan.raw.registers = c.as_slice-2.ensures ∙ ap (λ (r : RawNetlist). r.registers) c.raw-raw.ensures.value ∙ ap (λ (p : Plan). p.raw.registers) c.netlist.ensures in
    subst (λ (ws : List Word). HaveWidths (q_bits c.args.original.now.plan.raw.registers) ws) (sym c.as_slice-4.ensures) (subst (λ (l : List Register). HaveWidths (q_bits l) c.in_ok-registers.registers) is c.in_ok-registers.ensures.widths)

pub returns-in-Some-clause-found : goal.returns-in-Some-clause-found
returns-in-Some-clause-found c =
    let a : RawNetlist = c.args.original.now.plan.raw in
    let b : RawNetlist = c.args.mutant.now.plan.raw in
    let inputs : c.as_slice.result.now ≡ a.inputs = c.as_slice.ensures ∙ ap (λ (r : RawNetlist). r.inputs) c.raw-raw.ensures.value ∙ ap (λ (p : Plan). p.raw.inputs) c.netlist.ensures in
    let registers : c.as_slice-2.result.now ≡ a.registers = c.as_slice-2.ensures ∙ ap (λ (r : RawNetlist). r.registers) c.raw-raw.ensures.value ∙ ap (λ (p : Plan). p.raw.registers) c.netlist.ensures in
    record {
      inputs = subst (λ (l : List Port). HaveWidths (bits_at l) c.in_ok-inputs.inputs) inputs c.in_ok-inputs.ensures.widths;
      registers = subst (λ (l : List Register). HaveWidths (q_bits l) c.in_ok-registers.registers) registers c.in_ok-registers.ensures.widths;
      differ =
          subst (λ (ws : List Word). DifferAt a b (numbers_of ws) (numbers_of c.in_ok-registers.registers) c.in-Some.place) c.as_slice-3.ensures
          (subst (λ (ws : List Word). DifferAt a b (numbers_of c.as_slice-3.result.now) (numbers_of ws) c.in-Some.place) c.as_slice-4.ensures c.in-Some.ensures.place);
    }

pub returns-in-None-clause-found : goal.returns-in-None-clause-found
returns-in-None-clause-found c =
    let a : RawNetlist = c.args.original.now.plan.raw in
    let b : RawNetlist = c.args.mutant.now.plan.raw in
    let values : Values = listed_values c.args.assignment.now in
    let inputs : c.as_slice.result.now ≡ a.inputs = c.as_slice.ensures ∙ ap (λ (r : RawNetlist). r.inputs) c.raw-raw.ensures.value ∙ ap (λ (p : Plan). p.raw.inputs) c.netlist.ensures in
    let registers : c.as_slice-2.result.now ≡ a.registers = c.as_slice-2.ensures ∙ ap (λ (r : RawNetlist). r.registers) c.raw-raw.ensures.value ∙ ap (λ (p : Plan). p.raw.registers) c.netlist.ensures in
    let first : numbers_of c.as_slice-3.result.now ≡ input_numbers a values = ap numbers_of c.as_slice-3.ensures ∙ c.in_ok-inputs.ensures.numbers ∙ ap (λ (l : List Port). free_numbers values 1 (bits_at l)) inputs in
    let next : c.input_words.new.next ≡ 1 + all_bits (bits_at a.inputs) = c.in_ok-inputs.ensures.next ∙ ap (λ (l : List Port). 1 + all_bits (bits_at l)) inputs in
    let second : numbers_of c.as_slice-4.result.now ≡ register_numbers a values =
    ap numbers_of c.as_slice-4.ensures ∙ c.in_ok-registers.ensures.numbers
    ∙ ap (λ (n : ℕ). free_numbers values n (q_bits c.as_slice-2.result.now)) next
    ∙ ap (λ (l : List Register). free_numbers values (1 + all_bits (bits_at a.inputs)) (q_bits l)) registers in
    subst (λ (l : List ℕ). ¬ Differ a b l (register_numbers a values)) first (subst (λ (l : List ℕ). ¬ Differ a b (numbers_of c.as_slice-3.result.now) l) second c.in-None.ensures.place)
