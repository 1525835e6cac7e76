-- Marks that are all set.
use Rattle.cycle_sim.proofs.Common.{◌≡◌, ℕ, ◌+◌, ◌*◌, ◌/◌, ◌%◌, ◌<◌, List, length, replicate, ◌∙◌, ap, arith, bit_at, bit_at_ones, get_or-replicate, length-replicate, Reads, Plan, IsSound, order-few}
use Rattle.cycle_sim.proofs.Common.{mark_at, IsCurrent}

full-at : (count k : ℕ) → k < 64 * count → mark_at (replicate count 18446744073709551615) k ≡ 1
full-at count k inside = ap (λ (w : ℕ). bit_at w (k % 64)) (get_or-replicate count (k / 64) 18446744073709551615 0 (omega (arith, inside))) ∙ bit_at_ones 64 (k % 64) (omega arith)

pub full-current : (plan : Plan) → IsSound plan → (read marks : List ℕ) → read ≡ plan.order → marks ≡ replicate (length read / 64 + 1) 18446744073709551615 → (table : List ℕ) → IsCurrent plan table marks
full-current plan sound read marks same is table =
    let few = order-few (length plan.raw.cells) (Reads plan.raw) plan.order sound.order in
    let cells = sound.connected.driven.shaped.small.cells in
    let as_long : length read ≡ length plan.order = ap (λ (l : List ℕ). length l) same in
    let long : length marks ≡ length read / 64 + 1 = ap (λ (l : List ℕ). length l) is ∙ length-replicate (length read / 64 + 1) 18446744073709551615 in
    record {
      room = omega (arith, as_long, long);
      small = omega (arith, as_long, long, few, cells);
      computed = λ k inside unmarked. absurd (let one : mark_at marks k ≡ 1 = ap (λ (m : List ℕ). mark_at m k) is ∙ full-at (length read / 64 + 1) k (omega (arith, inside, as_long)) in omega (arith, one, unmarked));
    }
