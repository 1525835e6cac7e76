use Rattle.cycle_sim.proofs.Common.{◌≡◌, false, List, [], ◌∷◌, length, get_or, sym, ◌∙◌, subst, arith, append-nil, Bit, Constant, Part, Reading, part_bits, all_bits, IsReading}
use Rattle.cycle_sim.proofs.wiring.reading_of.Goals as goal

abbrev none : Part
none = record { first = Constant false; width = 0 }

one-reading : (drivers : List (List Bit)) (reading : Reading) (parts : List Part) (bits : List Bit) → length parts ≡ 1 → IsReading drivers reading (part_bits drivers (get_or parts 0 none)) (get_or parts 0 none ∷ []) → all_bits drivers parts ≡ bits → IsReading drivers reading bits parts
one-reading drivers reading [] bits one is all = absurd (omega (arith, one))
one-reading drivers reading (p ∷ []) bits one is all = subst (λ (b : List Bit). IsReading drivers reading b (p ∷ [])) (sym (append-nil (part_bits drivers p)) ∙ all) is
one-reading drivers reading (p ∷ q ∷ more) bits one is all = absurd (omega (arith, one))

pub returns-in-Some : goal.returns-in-Some
returns-in-Some c = λ drivers are all whole. c.in-Some.ensures.value

pub returns-in-len1 : goal.returns-in-len1
returns-in-len1 c = λ drivers are all whole. one-reading drivers c.single.result c.args.parts.now c.args.bits.now (omega (arith, c.in-len1.len_at_least, c.in-len1.len_below)) (c.single.ensures drivers are) all
