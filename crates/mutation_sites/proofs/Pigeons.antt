-- A netlist has no more nets than net bits.
use Rattle.mutation_sites.proofs.Common.{◌≡◌, ℕ, zero, suc, ◌+◌, ◌<◌, ◌≤◌, List, [], ◌∷◌, length, inl, inr, refl, sym, subst, arith, eqb_tells, Bit, Fixed, Net, RawNetlist, bits_at, q_bits, times}
use Rattle.mutation_sites.proofs.Common.{times_at, y_bits, drivers, all_bits, net_bits, Plan, IsSound}
use Rattle.mutation_sites.proofs.Unread.{times-self, times-other, times-cons}

-- the sum of a function over the numbers below this one
abbrev total : (ℕ → ℕ) → ℕ → ℕ
total f zero = 0
total f (suc n) = f n + total f n

total-add : (f g h : ℕ → ℕ) → ((k : ℕ) → h k ≡ f k + g k) → (n : ℕ) → total h n ≡ total f n + total g n
total-add f g h is zero = refl
total-add f g h is (suc n) = let rest = total-add f g h is n in omega (arith, rest, is n)

total-none : (f : ℕ → ℕ) → ((k : ℕ) → f k ≡ 0) → (n : ℕ) → total f n ≡ 0
total-none f is zero = refl
total-none f is (suc n) = let rest = total-none f is n in omega (arith, rest, is n)

-- each number is a net once
total-net : (m n : ℕ) → (total (λ k. times k (Net m ∷ [])) n ≤ 1) × (n ≤ m → total (λ k. times k (Net m ∷ [])) n ≡ 0)
total-net m zero = (omega arith, λ h. refl)
total-net m (suc n) =
    let rest = total-net m n in
    elim (eqb_tells m n) [
      | inl same ↦ (
          let here : times n (Net m ∷ []) ≡ 1 = subst (λ (k : ℕ). times n (Net k ∷ []) ≡ 1) (sym same.1) (times-self n) in
          let before : total (λ k. times k (Net m ∷ [])) n ≡ 0 = rest.1 (omega (arith, same.1)) in
          (omega (arith, here, before), λ h. absurd (omega (arith, h, same.1))))
      | inr other ↦ (
          let here : times n (Net m ∷ []) ≡ 0 = times-other m n other.1 in
          (omega (arith, here, rest.0), λ h. omega (arith, here, rest.1 (omega (arith, h)))))
    ]

total-bits : (bits : List Bit) (n : ℕ) → total (λ k. times k bits) n ≤ length bits
total-bits [] n = omega (arith, total-none (λ k. times k []) (λ k. refl) n)
total-bits (Fixed v ∷ more) n = omega (arith, total-bits more n)
total-bits (Net m ∷ more) n =
    let both = total-add (λ k. times k (Net m ∷ [])) (λ k. times k more) (λ k. times k (Net m ∷ more)) (λ k. times-cons k (Net m) more) n in
    omega (arith, both, (total-net m n).0, total-bits more n)

total-ports : (ports : List (List Bit)) (n : ℕ) → total (λ k. times_at k ports) n ≤ all_bits ports
total-ports [] n = omega (arith, total-none (λ k. times_at k []) (λ k. refl) n)
total-ports (bits ∷ more) n =
    let both = total-add (λ k. times k bits) (λ k. times_at k more) (λ k. times_at k (bits ∷ more)) (λ k. refl) n in
    omega (arith, both, total-bits bits n, total-ports more n)

total-drivers : (netlist : RawNetlist) (n : ℕ) → total (drivers netlist) n ≤ net_bits netlist
total-drivers netlist n =
    let inputs : ℕ → ℕ = λ k. times_at k (bits_at netlist.inputs) in
    let q : ℕ → ℕ = λ k. times_at k (q_bits netlist.registers) in
    let y : ℕ → ℕ = λ k. times_at k (y_bits netlist.cells) in
    let sources = total-add inputs q (λ k. inputs k + q k) (λ k. refl) n in
    let all = total-add (λ k. inputs k + q k) y (drivers netlist) (λ k. refl) n in
    omega (arith, sources, all, total-ports (bits_at netlist.inputs) n, total-ports (q_bits netlist.registers) n, total-ports (y_bits netlist.cells) n)

total-some : (f : ℕ → ℕ) (n : ℕ) → ((k : ℕ) → k < n → 1 ≤ f k) → n ≤ total f n
total-some f zero some = omega arith
total-some f (suc n) some =
    let rest = total-some f n (λ k h. some k (omega (arith, h))) in
    omega (arith, rest, some n (omega arith))

-- where all numbers below one are nets, there are few
pub few-nets : (plan : Plan) → IsSound plan → (n : ℕ) → ((k : ℕ) → k < n → 1 ≤ drivers plan.raw k) → n ≤ 1048577
few-nets plan sound n some = omega (arith, total-some (drivers plan.raw) n some, total-drivers plan.raw n, sound.connected.driven.shaped.small.bits)
