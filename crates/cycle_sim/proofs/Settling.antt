-- The cycle that a table has once its cells are computed.
use Rattle.cycle_sim.proofs.Common.{◌≡◌, ℕ, ◌+◌, ◌<◌, ◌≤◌, List, [], ◌∷◌, ◌++◌, length, take, drop, ◌∙◌, ap, subst, arith, length-map, Bit, Register, Nets, plain, bits_at, q_bits, Holds, y_bits}
use Rattle.cycle_sim.proofs.Common.{drivers, Plan, IsSound, FitPorts, driving, OneRunBySight, nets_of, IsComputed, front}
use Rattle.netlist_core.specs.declared.port.Port as port
use Rattle.cycle_sim.proofs.Plans.{driving-length, fit-length}
use Rattle.cycle_sim.proofs.Fronts.{front-of}
use Rattle.cycle_sim.proofs.Cycles.{cycle-alone}
use Rattle.cycle_sim.proofs.Current.{cycle-of}

fit-front : (xs ys : List (List Bit)) (vs : List ℕ) → FitPorts (xs ++ ys) vs → FitPorts xs (take (length xs) vs)
fit-front [] ys vs fit = tt
fit-front (x ∷ xs) ys [] fit = absurd fit
fit-front (x ∷ xs) ys (v ∷ vs) fit = (fit.0, fit-front xs ys vs fit.1)

module _ (plan : Plan) (sound : IsSound plan) (old registers slice laid new : List ℕ) (fit_old : FitPorts (driving plan.raw) old) (fit_new : FitPorts (driving plan.raw) new) (stored : FitPorts (q_bits plan.raw.registers) registers) (slice_is : slice ≡ registers) (is : laid ≡ (take (length plan.raw.inputs) old ++ slice) ++ drop (length plan.raw.inputs + length slice) old) (same : front plan.raw new ≡ front plan.raw laid) (computed : (c : ℕ) → c < length plan.raw.cells → IsComputed plan.raw new c) where
  abbrev n : ℕ
  n = length plan.raw.inputs

  abbrev m : ℕ
  m = length plan.raw.registers

  ins-count : length (bits_at plan.raw.inputs) ≡ n
  ins-count = length-map plan.raw.inputs (λ (p : port.Port). p.bits)

  qs-count : length (q_bits plan.raw.registers) ≡ m
  qs-count = length-map plan.raw.registers (λ (r : Register). r.q)

  fronts : (take n new ≡ take n old) × (take m (drop n new) ≡ slice)
  fronts =
      let count : length slice ≡ m = ap (λ (l : List ℕ). length l) slice_is ∙ fit-length (q_bits plan.raw.registers) registers stored ∙ qs-count in
      let long : n ≤ length old = (let a = fit-length (driving plan.raw) old fit_old in let b = driving-length plan.raw in omega (arith, a, b)) in
      front-of n m old slice laid new same is count long

  pub settled-holds : Holds (plain (nets_of plan.raw new)) (nets_of plan.raw new) plan.raw (take (length plan.raw.inputs) old) registers
  settled-holds =
      cycle-of plan sound new fit_new computed (take n old) registers
      (ap (λ (k : ℕ). take k new) ins-count ∙ fronts.0)
      (ap (λ (k : ℕ). take k (drop (length (bits_at plan.raw.inputs)) new)) qs-count ∙ ap (λ (k : ℕ). take m (drop k new)) ins-count ∙ fronts.1 ∙ slice_is)

  pub settled-alone : OneRunBySight → (nets : Nets) → Holds (plain nets) nets plan.raw (take (length plan.raw.inputs) old) registers → (k : ℕ) → 1 ≤ drivers plan.raw k → nets k ≡ nets_of plan.raw new k
  settled-alone runs nets holds k some =
      let entered : FitPorts (bits_at plan.raw.inputs) (take n old) = subst (λ (j : ℕ). FitPorts (bits_at plan.raw.inputs) (take j old)) ins-count (fit-front (bits_at plan.raw.inputs) (q_bits plan.raw.registers ++ y_bits plan.raw.cells) old fit_old) in
      cycle-alone runs plan sound (take n old) registers entered stored nets (nets_of plan.raw new) holds settled-holds k some
