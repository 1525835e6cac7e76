-- What is made of a pair, step by step.
use Rattle.pair_gates.proofs.Common.{◌≡◌, ◌↔◌, ℕ, ◌+◌, ◌<◌, ◌≤◌, List, [], length, refl, sym, ap, subst, ◌∙◌, arith, ℤ, Result, Ok, Err, IsErrAnd, IfErr, length-map, length-append, Values, IsModel}
use Rattle.pair_gates.proofs.Common.{bits_at, q_bits, d_bits, Plan, IsSound, free_bits, all_bits, joined, GateLit, Gates, count, IsLit, AreOrdered, Hold, GatesHaveValues, Xor, MadeRow, row_of}
use Rattle.pair_gates.proofs.Common.{grown-length, IsSome, Lits, bit_lit, bits_lits, AreWithin, MadeNets, netlist_made, made_as, bits-within, AreAlike, copies, step_bits, pair_row}
use Rattle.std.specs.List.{All}
use Rattle.cell_gates.specs.declared.error.GateError.{GateError}
use Rattle.cell_gates.specs.declared.error.GateError.TheVariants as cause
use Rattle.netlist_core.specs.Drivers.{y_bits}
use Rattle.netlist_core.specs.Solutions.{OrderSettles, OneAnswerBySight}
use Rattle.pair_gates.specs.declared.error.EncodeError.{EncodeError}
use Rattle.pair_gates.specs.Refusals.{max_free, max_gates, of_gates, IsRefused}
use Rattle.pair_gates.specs.Differences.{TellDifferences}
use Rattle.pair_gates.proofs.Widths.{bits-same, next-widths}
use Rattle.pair_gates.proofs.Stepping.{joined-long, step-long}
use Rattle.pair_gates.proofs.Telling.{lead_two, tell-differences}

abbrev pub row_as : Gates → List GateLit → MadeRow
row_as gates bits = record { gates = gates; bits = bits }

-- no gates over so many free bits
abbrev pub none_of : ℕ → Gates
none_of free = record { free = free; made = [] }

-- the row from the nets of both
abbrev pub row_to : Plan → Plan → Lits → MadeNets → MadeRow
row_to a b lits two = row_of Xor two.gates (bits_lits lits (step_bits a.raw)) (bits_lits two.lits (step_bits b.raw))

-- and from those of the first
abbrev pub row_by : Plan → Plan → MadeNets → MadeRow
row_by a b one = row_to a b one.lits (netlist_made one.gates b)

module _ (a b : Plan) (none one two : Gates) (first second : Lits) (start : none ≡ record { free = free_bits a.raw; made = [] }) (in_one : made_as one first ≡ netlist_made none a) (in_two : made_as two second ≡ netlist_made one b) where
  one-is : made_as one first ≡ netlist_made (record { free = free_bits a.raw; made = [] }) a
  one-is = in_one ∙ ap (λ (g : Gates). netlist_made g a) start

  pub row-is : (shown others bits : List GateLit) (gates : Gates) → shown ≡ bits_lits first (step_bits a.raw) → others ≡ bits_lits second (step_bits b.raw) → row_as gates bits ≡ row_of Xor two shown others → row_as gates bits ≡ pair_row a b
  row-is shown others bits gates is_shown is_others made =
      made
      ∙ ap (λ (xs : List GateLit). row_of Xor two xs others) is_shown
      ∙ ap (λ (ys : List GateLit). row_of Xor two (bits_lits first (step_bits a.raw)) ys) is_others
      ∙ ap (row_to a b first) in_two
      ∙ ap (row_by a b) one-is

-- too many gates of the first are too many of both
pub first-many : (a b : Plan) → IsSound a → IsSound b → AreAlike a.raw b.raw → (none : Gates) → none ≡ record { free = free_bits a.raw; made = [] } → max_gates < length (netlist_made none a).gates.made → max_gates < length (copies a b).gates.made
first-many a b sound_a sound_b alike none start many =
    let grown = grown-length (lead_two a b sound_a sound_b alike) in
    let same : length (netlist_made none a).gates.made ≡ length (netlist_made (record { free = free_bits a.raw; made = [] }) a).gates.made = ap (λ (g : Gates). length (netlist_made g a).gates.made) start in
    omega (arith, many, same, grown.0)

-- The refusal that a cell's refusal is.
refused-by : (a b : Plan) (g : GateError) (e : EncodeError) → e ≡ of_gates g → AreAlike a.raw b.raw → free_bits a.raw ≤ max_free → (g ≡ cause.TooMany → max_gates < length (copies a b).gates.made) → IsRefused a b e
refused-by a b cause.TooMany e is alike few many = subst (λ (x : EncodeError). IsRefused a b x) (sym is) (alike, few, many refl)
refused-by a b cause.Memory e is alike few many = subst (λ (x : EncodeError). IsRefused a b x) (sym is) tt

pub refused-err : {T : Type 0} (a b : Plan) (r : Result T EncodeError) (g : GateError) → IsErrAnd r (λ e. e ≡ of_gates g) → AreAlike a.raw b.raw → free_bits a.raw ≤ max_free → (g ≡ cause.TooMany → max_gates < length (copies a b).gates.made) → IfErr r (IsRefused a b)
refused-err a b (Ok x) g is alike few many = tt
refused-err a b (Err e) g is alike few many = refused-by a b g e is alike few many

-- A row has one literal for each bit that a step shows, so that both are as long, and no netlist has more.

row-long : (netlist : Plan) (lits : Lits) (row : List GateLit) → row ≡ bits_lits lits (step_bits netlist.raw) → length row ≡ length (step_bits netlist.raw)
row-long netlist lits row is = ap (λ (l : List GateLit). length l) is ∙ length-map (step_bits netlist.raw) (bit_lit lits)

pub rows-same : (a b : Plan) → IsSound a → IsSound b → AreAlike a.raw b.raw → (first second : Lits) (shown others : List GateLit) → shown ≡ bits_lits first (step_bits a.raw) → others ≡ bits_lits second (step_bits b.raw) → length shown ≡ length others
rows-same a b sound_a sound_b alike first second shown others is also =
    row-long a first shown is ∙ step-long a.raw b.raw alike sound_a.formed sound_b.formed ∙ sym (row-long b second others also)

pub row-few : (netlist : Plan) → IsSound netlist → (lits : Lits) (row : List GateLit) → row ≡ bits_lits lits (step_bits netlist.raw) → length row ≤ 1048577
row-few netlist sound lits row is =
    let long = row-long netlist lits row is in
    let sum = length-append (joined (bits_at netlist.raw.outputs)) (joined (d_bits netlist.raw.registers)) in
    let outputs = joined-long (bits_at netlist.raw.outputs) in
    let next = joined-long (d_bits netlist.raw.registers) in
    let wide = bits-same (d_bits netlist.raw.registers) (q_bits netlist.raw.registers) (next-widths netlist.raw.registers sound.formed.registers) in
    let few : all_bits (bits_at netlist.raw.inputs) + all_bits (bits_at netlist.raw.outputs) + all_bits (q_bits netlist.raw.registers) + all_bits (y_bits netlist.raw.cells) ≤ 1048577 = sound.connected.driven.shaped.small.bits in
    omega (arith, long, sum, outputs, next, wide, few)

-- its literals are those of variables that there are
pub row-within : (netlist : Plan) (gates : Gates) (lits : Lits) → AreWithin gates lits → (row : List GateLit) → row ≡ bits_lits lits (step_bits netlist.raw) → All (IsLit (count gates)) row
row-within netlist gates lits within row is = subst (λ (l : List GateLit). All (IsLit (count gates)) l) (sym is) (bits-within gates lits within (step_bits netlist.raw))

-- The clauses of the pair's row tell the differences.
pub tell-row : OrderSettles → OneAnswerBySight → GatesHaveValues → (a b : Plan) → IsSound a → IsSound b → AreAlike a.raw b.raw → (clauses : List (List ℤ)) (gates : Gates) (bits : List GateLit) → row_as gates bits ≡ pair_row a b → AreOrdered gates.free gates.made → ((values : Values) → IsModel values clauses ↔ (Hold gates values × IsSome values bits)) → TellDifferences a.raw b.raw clauses
tell-row settles answers have a b sound_a sound_b alike clauses gates bits made ordered are =
    tell-differences settles answers have a b sound_a sound_b alike clauses
    (subst (λ (r : MadeRow). AreOrdered r.gates.free r.gates.made) made ordered)
    (subst (λ (r : MadeRow). (values : Values) → IsModel values clauses ↔ (Hold r.gates values × IsSome values r.bits)) made are)
