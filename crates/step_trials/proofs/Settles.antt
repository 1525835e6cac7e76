-- The nets of a cycle, laid and computed in the order of the cells.
use Rattle.step_trials.proofs.Common.{◌≡◌, ℕ, ◌+◌, ◌≤◌, List, [], ◌∷◌, length, refl, sym, ap, subst, arith, Register, number, Nets, values, plain, bits_at, q_bits, d_bits, port_numbers, taken}
use Rattle.step_trials.proofs.Common.{AllWide, AllRegistersFit, Plan, IsSound, laid, after_order, settled, OrderSettles, OneAnswerBySight, plain-causal, design, free_list, inputs_of, state_of}
use Rattle.step_trials.proofs.Common.{HoldsAt, given, GivesAt}
use Rattle.step_trials.proofs.InputLemmas.{laid-free, parts-fit}

-- what registers take is what stands at their D's
pub taken-plain : (nets : Nets) (k : ℕ) (registers : List Register) → port_numbers nets (d_bits registers) ≡ taken (plain nets) k registers
taken-plain nets k [] = refl
taken-plain nets k (r ∷ more) = ap (λ (rest : List ℕ). number (values nets r.d) ∷ rest) (taken-plain nets (k + 1) more)

-- a D has the width of a word
pub d-wide : (registers : List Register) → AllRegistersFit registers → AllWide (d_bits registers)
d-wide [] fit = tt
d-wide (r ∷ more) fit =
    let same : length r.d ≡ r.start.width = fit.0 in
    let some : 1 ≤ r.start.width = r.start.some in
    let narrow : r.start.width ≤ 128 = r.start.narrow in
    (omega (arith, same, some), omega (arith, same, narrow), d-wide more fit.2)

-- the nets once a number is laid over the free bits, and the cells are computed
abbrev pub computed : Plan → Nets → ℕ → Nets
computed plan start n = after_order plain plan.raw.cells plan.order (laid start (free_list plan.raw) n)

computed-settled : (plan : Plan) (start : Nets) (n : ℕ) → settled plain plan.raw plan.order start (inputs_of plan.raw n) (state_of plan.raw n) ≡ computed plan start n
computed-settled plan start n = ap (after_order plain plan.raw.cells plan.order) (sym (laid-free plan.raw start n))

module _ (settles : OrderSettles) (answers : OneAnswerBySight) (plan : Plan) (sound : IsSound plan) where
  -- what was computed is a solution
  pub computed-holds : (start : Nets) (n : ℕ) → HoldsAt (design plan.raw) n (computed plan start n)
  computed-holds start n =
      subst (λ (s : Nets). HoldsAt (design plan.raw) n s) (computed-settled plan start n)
      (settles plan plain sound (plain-causal plan.raw) start (inputs_of plan.raw n) (state_of plan.raw n) (parts-fit (bits_at plan.raw.inputs) n) (parts-fit (q_bits plan.raw.registers) _))

  -- and gives what all solutions give
  pub computed-gives : (start : Nets) (n : ℕ) → GivesAt (design plan.raw) n (given (design plan.raw) (computed plan start n))
  computed-gives start n x in_x =
      let both = answers plan plain sound (plain-causal plan.raw) (inputs_of plan.raw n) (state_of plan.raw n) x (computed plan start n) in_x (computed-holds start n) in
      rw (both.0, both.1) refl
