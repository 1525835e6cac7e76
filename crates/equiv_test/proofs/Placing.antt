-- The place at which two simulated steps differ, or that they don't.
use Rattle.equiv_test.proofs.Common.{◌≡◌, ℕ, ◌+◌, ◌≤◌, List, length, sym, ap, subst, ◌∙◌, arith, length-map, RawNetlist, Nets, plain, Holds, bits_at, q_bits, shown, taken, Plan, IsSound, all_bits}
use Rattle.equiv_test.proofs.Common.{OneAnswerBySight, Named, AreAlike, port_named, register_named, Differ, DifferFirst, DifferAt}
use Rattle.netlist_core.specs.Drivers.{y_bits}
use Rattle.equiv_test.specs.declared.verdict.DiffPlace.TheVariants.{Output, Register}
use Rattle.equiv_test.proofs.Apart.{ports-few, not-differ}
use Rattle.cycle_sim.proofs.Plans.{registers-few}

-- How many outputs and registers there are.

pub outputs-few : (plan : Plan) → IsSound plan → length plan.raw.outputs ≤ 1048577
outputs-few plan sound =
    let some = ports-few plan.raw.outputs sound.formed.outputs in
    let few : all_bits (bits_at plan.raw.inputs) + all_bits (bits_at plan.raw.outputs) + all_bits (q_bits plan.raw.registers) + all_bits (y_bits plan.raw.cells) ≤ 1048577 = sound.connected.driven.shaped.small.bits in
    omega (arith, some, few)

pub stored-few : (plan : Plan) → IsSound plan → length plan.raw.registers ≤ 1048577
stored-few plan sound =
    let some = registers-few plan.raw.registers sound.formed.registers in
    let few : all_bits (bits_at plan.raw.inputs) + all_bits (bits_at plan.raw.outputs) + all_bits (q_bits plan.raw.registers) + all_bits (y_bits plan.raw.cells) ≤ 1048577 = sound.connected.driven.shaped.small.bits in
    omega (arith, some, few)

pub outputs-alike : (a b : RawNetlist) → AreAlike a b → length b.outputs ≡ length a.outputs
outputs-alike a b alike = sym (length-map b.outputs port_named) ∙ ap (λ (l : List Named). length l) (sym alike.0.outputs) ∙ length-map a.outputs port_named

pub registers-alike : (a b : RawNetlist) → AreAlike a b → length b.registers ≡ length a.registers
registers-alike a b alike = sym (length-map b.registers register_named) ∙ ap (λ (l : List Named). length l) (sym alike.1) ∙ length-map a.registers register_named

-- Two steps, over plans that are those of the netlists.
module _ (a b : Plan) (inputs state : List ℕ) (x y : Nets) (in_x : Holds (plain x) x a.raw inputs state) (in_y : Holds (plain y) y b.raw inputs state) (first second : Plan) (is_a : first ≡ a) (is_b : second ≡ b) where
  shown-a : shown (plain x) first.raw ≡ shown (plain x) a.raw
  shown-a = ap (λ (p : Plan). shown (plain x) p.raw) is_a

  shown-b : shown (plain y) second.raw ≡ shown (plain y) b.raw
  shown-b = ap (λ (p : Plan). shown (plain y) p.raw) is_b

  taken-a : taken (plain x) 0 first.raw.registers ≡ taken (plain x) 0 a.raw.registers
  taken-a = ap (λ (p : Plan). taken (plain x) 0 p.raw.registers) is_a

  taken-b : taken (plain y) 0 second.raw.registers ≡ taken (plain y) 0 b.raw.registers
  taken-b = ap (λ (p : Plan). taken (plain y) 0 p.raw.registers) is_b

  pub output-differs : (place : ℕ) → DifferFirst (shown (plain x) first.raw) (shown (plain y) second.raw) place → DifferAt a.raw b.raw inputs state (Output place)
  output-differs place differ = record {
    first = x;
    second = y;
    in_first = in_x;
    in_second = in_y;
    is_first = subst (λ (l : List ℕ). DifferFirst (shown (plain x) a.raw) l place) shown-b (subst (λ (l : List ℕ). DifferFirst l (shown (plain y) second.raw) place) shown-a differ);
  }

  module _ (outputs : shown (plain x) first.raw ≡ shown (plain y) second.raw) (xs ys : List ℕ) (is_xs : xs ≡ taken (plain x) 0 first.raw.registers) (is_ys : ys ≡ taken (plain y) 0 second.raw.registers) where
    pub register-differs : (place : ℕ) → DifferFirst xs ys place → DifferAt a.raw b.raw inputs state (Register place)
    register-differs place differ = record {
      first = x;
      second = y;
      in_first = in_x;
      in_second = in_y;
      is_first = (sym shown-a ∙ outputs ∙ shown-b, subst (λ (l : List ℕ). DifferFirst (taken (plain x) 0 a.raw.registers) l place) (is_ys ∙ taken-b) (subst (λ (l : List ℕ). DifferFirst l ys place) (is_xs ∙ taken-a) differ));
    }

    pub none-differs : OneAnswerBySight → IsSound a → IsSound b → xs ≡ ys → ¬ Differ a.raw b.raw inputs state
    none-differs answers sound_a sound_b same = not-differ answers a b sound_a sound_b inputs state x y in_x in_y (sym shown-a ∙ outputs ∙ shown-b) (sym (is_xs ∙ taken-a) ∙ same ∙ is_ys ∙ taken-b)
