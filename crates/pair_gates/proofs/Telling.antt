-- The clauses of a pair have a model exactly where a step of the two differs.
use Rattle.pair_gates.proofs.Common.{◌≡◌, ◌↔◌, ◌⊎◌, ℕ, ◌≤◌, Bool, List, [], ◌++◌, length, refl, sym, ap, subst, ◌∙◌, inl, inr, arith, ℤ, length-map, append-nil, Values, IsModel, Bit, RawNetlist, Nets}
use Rattle.pair_gates.proofs.Common.{bit_values, bits_at, q_bits, plain, Holds, shown, taken, Plan, IsSound, free_bits, all_bits, plain-causal, length-values, design, StepsAlike, joined, GateLit}
use Rattle.pair_gates.proofs.Common.{Gates, AreOrdered, Hold, AgreeUpTo, GatesHaveValues, Xor, lit_values, Grows, AddsBits, hold-before, IsSome, bit_lit, bits_lits, nets_of, MadeNets, first_input}
use Rattle.pair_gates.proofs.Common.{first_register, netlist_made, weight_of, input_numbers, register_numbers, within-later, bits-within, netlist-leads, netlist-solves, AreAlike, step_bits, pair_row}
use Rattle.netlist_core.specs.Solutions.{OrderSettles, OneAnswerBySight}
use Rattle.gate_words.proofs.RowLemmas.{RowIs, row-adds}
use Rattle.netlist_gates.proofs.Laying.{bits-worth}
use Rattle.pair_gates.specs.Differences.{Differ, HasModel, TellDifferences}
use Rattle.pair_gates.proofs.Widths.{free-bits-same, inputs-numbered, registers-numbered}
use Rattle.pair_gates.proofs.Stepping.{joined-long, step-long, alike-bits, bits-alike}
use Rattle.pair_gates.proofs.Apart.{bits_apart, equal-none, some-or-equal}
use Rattle.pair_gates.proofs.Starting.{start_values, free-started, free-agree}

-- The rows of both copies.
module _ (a b : Plan) (sound_a : IsSound a) (sound_b : IsSound b) (alike : AreAlike a.raw b.raw) where
  abbrev pub none_made : Gates
  none_made = record { free = free_bits a.raw; made = [] }

  abbrev pub one : MadeNets
  one = netlist_made none_made a

  abbrev pub two : MadeNets
  two = netlist_made one.gates b

  pub lead_one : Grows none_made one.gates (weight_of a.raw.cells a.order)
  lead_one = (netlist-leads a sound_a none_made (omega arith)).grows

  pub room-two : free_bits b.raw ≤ one.gates.free
  room-two = (let same = free-bits-same a.raw b.raw alike in let kept = lead_one.free in omega (arith, same, kept))

  pub lead_two : Grows one.gates two.gates (weight_of b.raw.cells b.order)
  lead_two = (netlist-leads b sound_b one.gates room-two).grows

  abbrev pub first_row : List GateLit
  first_row = bits_lits one.lits (step_bits a.raw)

  abbrev pub second_row : List GateLit
  second_row = bits_lits two.lits (step_bits b.raw)

  pub rows-long : length first_row ≡ length second_row
  rows-long = length-map (step_bits a.raw) (bit_lit one.lits) ∙ step-long a.raw b.raw alike sound_a.formed sound_b.formed ∙ sym (length-map (step_bits b.raw) (bit_lit two.lits))

  pub row-added : AddsBits two.gates (pair_row a b).gates (pair_row a b).bits (length first_row) (length first_row) (RowIs Xor first_row second_row)
  row-added = row-adds Xor two.gates first_row second_row tt
      (bits-within two.gates one.lits (within-later lead_two one.lits (netlist-leads a sound_a none_made (omega arith)).within) (step_bits a.raw))
      (bits-within two.gates two.lits (netlist-leads b sound_b one.gates room-two).within (step_bits b.raw)) rows-long

  pub row-free : (pair_row a b).gates.free ≡ free_bits a.raw
  row-free = row-added.grows.free ∙ lead_two.free ∙ lead_one.free

  -- What the gates are worth.
  module _ (settles : OrderSettles) (values : Values) (holds : Hold (pair_row a b).gates values) where
    abbrev first_nets : Nets
    first_nets = nets_of values one.lits

    abbrev second_nets : Nets
    second_nets = nets_of values two.lits

    holds_two : Hold two.gates values
    holds_two = hold-before row-added.grows values holds

    pub in-first : Holds (plain first_nets) first_nets a.raw (input_numbers a.raw values) (register_numbers a.raw values)
    in-first = netlist-solves settles a sound_a none_made (omega arith) values (hold-before lead_two values holds_two)

    pub in-second : Holds (plain second_nets) second_nets b.raw (input_numbers a.raw values) (register_numbers a.raw values)
    in-second =
        subst (λ (state : List ℕ). Holds (plain second_nets) second_nets b.raw (input_numbers a.raw values) state) (registers-numbered a.raw b.raw alike values)
        (subst (λ (inputs : List ℕ). Holds (plain second_nets) second_nets b.raw inputs (register_numbers b.raw values)) (inputs-numbered a.raw b.raw alike values)
        (netlist-solves settles b sound_b one.gates room-two values holds_two))

    pub row-is : lit_values values (pair_row a b).bits ≡ bits_apart values (bit_values first_nets (step_bits a.raw)) (bit_values second_nets (step_bits b.raw))
    row-is =
        row-added.is values holds
        ∙ ap (λ (xs : List Bool). bits_apart values xs (lit_values values second_row)) (bits-worth values one.lits (step_bits a.raw))
        ∙ ap (λ (ys : List Bool). bits_apart values (bit_values first_nets (step_bits a.raw)) ys) (bits-worth values two.lits (step_bits b.raw))

    pub some-differ : IsSome values (pair_row a b).bits → Differ a.raw b.raw (input_numbers a.raw values) (register_numbers a.raw values)
    some-differ some = record {
      first = first_nets;
      second = second_nets;
      in_first = in-first;
      in_second = in-second;
      apart = λ same. equal-none values (pair_row a b).bits (bit_values first_nets (step_bits a.raw))
          (row-is ∙ sym (ap (λ (ys : List Bool). bits_apart values (bit_values first_nets (step_bits a.raw)) ys) (alike-bits a.raw b.raw alike sound_a.formed sound_b.formed first_nets second_nets same))) some;
    }

    pub some-or-alike : IsSome values (pair_row a b).bits ⊎ StepsAlike (design a.raw) (design b.raw) first_nets second_nets
    some-or-alike = by (some-or-equal values (pair_row a b).bits (bit_values first_nets (step_bits a.raw)) (bit_values second_nets (step_bits b.raw)) long row-is) where
      long : length (bit_values first_nets (step_bits a.raw)) ≡ length (bit_values second_nets (step_bits b.raw))
      long = length-values first_nets (step_bits a.raw) ∙ step-long a.raw b.raw alike sound_a.formed sound_b.formed ∙ sym (length-values second_nets (step_bits b.raw))

      by : IsSome values (pair_row a b).bits ⊎ (bit_values first_nets (step_bits a.raw) ≡ bit_values second_nets (step_bits b.raw)) → IsSome values (pair_row a b).bits ⊎ StepsAlike (design a.raw) (design b.raw) first_nets second_nets
      by (inl some) = inl some
      by (inr same) = inr (bits-alike a.raw b.raw alike sound_a.formed sound_b.formed first_nets second_nets same)

-- The free bits of inputs and registers.

abbrev pub sources : RawNetlist → Nets → List Bool
sources netlist x = bit_values x (joined (bits_at netlist.inputs)) ++ bit_values x (joined (q_bits netlist.registers))

pub inputs-started : (netlist : RawNetlist) (x : Nets) (inputs state : List ℕ) → Holds (plain x) x netlist inputs state → input_numbers netlist (start_values (sources netlist x)) ≡ inputs
inputs-started netlist x inputs state holds =
    free-started x (bits_at netlist.inputs) (sources netlist x) [] (bit_values x (joined (q_bits netlist.registers))) first_input refl (omega arith) ∙ holds.entered

joined-bits : (x : Nets) (ports : List (List Bit)) → length (bit_values x (joined ports)) ≡ all_bits ports
joined-bits x ports = length-values x (joined ports) ∙ joined-long ports

pub state-started : (netlist : RawNetlist) (x : Nets) (inputs state : List ℕ) → Holds (plain x) x netlist inputs state → register_numbers netlist (start_values (sources netlist x)) ≡ state
state-started netlist x inputs state holds =
    let ins : List Bool = bit_values x (joined (bits_at netlist.inputs)) in
    let qs : List Bool = bit_values x (joined (q_bits netlist.registers)) in
    free-started x (q_bits netlist.registers) (sources netlist x) ins [] (first_register netlist) (ap (λ (l : List Bool). ins ++ l) (sym (append-nil qs))) (let e = joined-bits x (bits_at netlist.inputs) in omega (arith, e)) ∙ holds.stored

pub tell-differences : OrderSettles → OneAnswerBySight → GatesHaveValues → (a b : Plan) → IsSound a → IsSound b → AreAlike a.raw b.raw → (clauses : List (List ℤ)) → AreOrdered (pair_row a b).gates.free (pair_row a b).gates.made → ((values : Values) → IsModel values clauses ↔ (Hold (pair_row a b).gates values × IsSome values (pair_row a b).bits)) → TellDifferences a.raw b.raw clauses
tell-differences settles answers have a b sound_a sound_b alike clauses ordered are = record {
  models = λ values model. (let is = (are values).0 model in some-differ a b sound_a sound_b alike settles values is.0 is.1);
  differences = λ inputs state differ. found (differ.first) (differ.second) differ.apart (decided inputs state differ.first differ.second differ.in_first differ.in_second);
  equal = (
    (λ equal values model. (let is = (are values).0 model in let d = some-differ a b sound_a sound_b alike settles values is.0 is.1 in d.apart (equal (input_numbers a.raw values) (register_numbers a.raw values) d.first d.second d.in_first d.in_second))),
    (λ none inputs state x y in_x in_y. same x y none (decided inputs state x y in_x in_y)),
  );
} where
  found : {inputs state : List ℕ} (x y : Nets) → ¬ StepsAlike (design a.raw) (design b.raw) x y → StepsAlike (design a.raw) (design b.raw) x y ⊎ HasModel a.raw clauses inputs state → HasModel a.raw clauses inputs state
  found x y apart (inl is) = absurd (apart is)
  found x y apart (inr model) = model

  same : {inputs state : List ℕ} (x y : Nets) → ((values : Values) → ¬ IsModel values clauses) → StepsAlike (design a.raw) (design b.raw) x y ⊎ HasModel a.raw clauses inputs state → StepsAlike (design a.raw) (design b.raw) x y
  same x y none (inl is) = is
  same x y none (inr model) = absurd (none model.values model.model)

  -- two solutions of a step are alike, or their inputs and registers are free bits of a model
  decided : (inputs state : List ℕ) (x y : Nets) → Holds (plain x) x a.raw inputs state → Holds (plain y) y b.raw inputs state → StepsAlike (design a.raw) (design b.raw) x y ⊎ HasModel a.raw clauses inputs state
  decided inputs state x y in_x in_y =
      let start : Values = start_values (sources a.raw x) in
      let got = have (pair_row a b).gates start ordered in
      let values : Values = got.0 in
      let agree : AgreeUpTo (pair_row a b).gates.free values start = got.1 in
      let free = row-free a b sound_a sound_b alike in
      let is_in : input_numbers a.raw values ≡ inputs = free-agree values start (pair_row a b).gates.free first_input (bits_at a.raw.inputs) agree (omega (arith, free)) ∙ inputs-started a.raw x inputs state in_x in
      let is_state : register_numbers a.raw values ≡ state = free-agree values start (pair_row a b).gates.free (first_register a.raw) (q_bits a.raw.registers) agree (omega (arith, free)) ∙ state-started a.raw x inputs state in_x in
      let first : Nets = nets_of values (one a b sound_a sound_b alike).lits in
      let second : Nets = nets_of values (two a b sound_a sound_b alike).lits in
      let in_first : Holds (plain first) first a.raw inputs state = subst (λ (s : List ℕ). Holds (plain first) first a.raw inputs s) is_state (subst (λ (i : List ℕ). Holds (plain first) first a.raw i (register_numbers a.raw values)) is_in (in-first a b sound_a sound_b alike settles values got.2)) in
      let in_second : Holds (plain second) second b.raw inputs state = subst (λ (s : List ℕ). Holds (plain second) second b.raw inputs s) is_state (subst (λ (i : List ℕ). Holds (plain second) second b.raw i (register_numbers a.raw values)) is_in (in-second a b sound_a sound_b alike settles values got.2)) in
      let at_x = answers a plain sound_a (plain-causal a.raw) inputs state x first in_x in_first in
      let at_y = answers b plain sound_b (plain-causal b.raw) inputs state second y in_second in_y in
      by at_x at_y (some-or-alike a b sound_a sound_b alike settles values got.2) (λ some. record { values = values; model = (are values).1 (got.2, some); inputs_are = is_in; state_is = is_state })
    where
      by : {first second x y : Nets} {inputs state : List ℕ} {some : Type 0} → ((shown (plain x) a.raw ≡ shown (plain first) a.raw) × (taken (plain x) 0 a.raw.registers ≡ taken (plain first) 0 a.raw.registers)) → ((shown (plain second) b.raw ≡ shown (plain y) b.raw) × (taken (plain second) 0 b.raw.registers ≡ taken (plain y) 0 b.raw.registers)) → some ⊎ StepsAlike (design a.raw) (design b.raw) first second → (some → HasModel a.raw clauses inputs state) → StepsAlike (design a.raw) (design b.raw) x y ⊎ HasModel a.raw clauses inputs state
      by at_x at_y (inl some) model = inr (model some)
      by at_x at_y (inr is) model = inl (record { outputs = at_x.0 ∙ is.outputs ∙ at_y.0; next = at_x.1 ∙ is.next ∙ at_y.1 })
