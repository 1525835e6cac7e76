-- Trying all numbers over the free bits decides one-step equality, and one-step equality lasts.
use Rattle.step_trials.proofs.Common.{◌≡◌, ◌⊎◌, ℕ, ◌+◌, ◌<◌, ◌^◌, List, [], ◌∷◌, ◌++◌, length, get_or, refl, sym, ◌∙◌, subst, inl, inr, arith, get_or_append_left, length-append, length-map}
use Rattle.step_trials.proofs.Common.{RawNetlist, Bit, number, Nets, values, Sight, Outputs, plain, bits_at, Holds, shown, taken, IsRunBy, outputs_by, Plan, IsSound, all_zero, OrderSettles}
use Rattle.step_trials.proofs.Common.{OneAnswerBySight, Machine, design, StepsAlike, OneStepEqual, EqualOnAllRuns, free_list, inputs_of, state_of, HoldsAt, given, EqualAt, GivesAt, GivesAll}
use Rattle.std.proofs.lemmas.Bool.{cases_lt}
use Rattle.std.proofs.Math.Seq.{get_or-append_seam}
use Rattle.step_trials.proofs.InputLemmas.{free-tried, inputs-values, state-values}
use Rattle.step_trials.proofs.Settles.{computed, computed-holds}

-- what is given at a number is one
pub given-once : OrderSettles → OneAnswerBySight → (plan : Plan) → IsSound plan → (n : ℕ) (list other : List ℕ) → GivesAt (design plan.raw) n list → GivesAt (design plan.raw) n other → list ≡ other
given-once settles answers plan sound n list other one two =
    let s : Nets = computed plan all_zero n in
    let in_s : HoldsAt (design plan.raw) n s = computed-holds settles answers plan sound all_zero n in
    sym (one s in_s) ∙ two s in_s

-- two lists of one length, and what stands behind them
split : (xs ys vs ws : List ℕ) → length xs ≡ length ys → xs ++ vs ≡ ys ++ ws → (xs ≡ ys) × (vs ≡ ws)
split [] [] vs ws even same = (refl, same)
split [] (y ∷ ys) vs ws even same = absurd (omega (arith, even))
split (x ∷ xs) [] vs ws even same = absurd (omega (arith, even))
split (x ∷ xs) (y ∷ ys) vs ws even same =
    let first : x ≡ y = cc in
    let later : xs ++ vs ≡ ys ++ ws = cc in
    let rest = split xs ys vs ws (omega (arith, even)) later in
    let front : xs ≡ ys = rest.0 in
    (cc, rest.1)

-- machines of one netlist that give the same step alike
pub given-alike : (netlist : RawNetlist) (a b : Nets → Sight) (x y : Nets) → given (record { netlist = netlist; sight = a }) x ≡ given (record { netlist = netlist; sight = b }) y → StepsAlike (record { netlist = netlist; sight = a }) (record { netlist = netlist; sight = b }) x y
given-alike netlist a b x y same =
    let ports : List (List Bit) = bits_at netlist.outputs in
    let even : length (shown (a x) netlist) ≡ length (shown (b y) netlist) = length-map ports (λ bits. number (a x Outputs bits)) ∙ sym (length-map ports (λ bits. number (b y Outputs bits))) in
    let both = split (shown (a x) netlist) (shown (b y) netlist) (taken (a x) 0 netlist.registers) (taken (b y) 0 netlist.registers) even same in
    record { outputs = both.0; next = both.1 }

pub alike-given : (a b : Machine) (x y : Nets) → StepsAlike a b x y → given a x ≡ given b y
alike-given a b x y alike = rw (alike.outputs, alike.next) refl

-- equal at each number that is tried, so equal
pub trials-equal : (netlist : RawNetlist) (b : Nets → Sight) → ((n : ℕ) → n < 2 ^ length (free_list netlist) → EqualAt (design netlist) (record { netlist = netlist; sight = b }) n) → OneStepEqual (design netlist) (record { netlist = netlist; sight = b })
trials-equal netlist b all inputs state x y in_x in_y =
    let n : ℕ = number (values x (free_list netlist)) in
    let ins : inputs ≡ inputs_of netlist n = sym in_x.entered ∙ sym (inputs-values netlist x) in
    let regs : state ≡ state_of netlist n = sym in_x.stored ∙ sym (state-values netlist x) in
    let P : List ℕ → List ℕ → Type 0 = λ is rs. Holds (plain x) x netlist is rs in
    let Q : List ℕ → List ℕ → Type 0 = λ is rs. Holds (b y) y netlist is rs in
    let here : P (inputs_of netlist n) (state_of netlist n) = subst (λ (rs : List ℕ). P (inputs_of netlist n) rs) regs (subst (λ (is : List ℕ). P is state) ins in_x) in
    let there : Q (inputs_of netlist n) (state_of netlist n) = subst (λ (rs : List ℕ). Q (inputs_of netlist n) rs) regs (subst (λ (is : List ℕ). Q is state) ins in_y) in
    all n (free-tried netlist x) x y here there

-- equal in one step, so equal on every list of inputs
pub one_step_to_all_runs : (a b : Machine) → OneStepEqual a b → EqualOnAllRuns a b
one_step_to_all_runs a b step state [] [] [] in_a in_b = refl
one_step_to_all_runs a b step state [] (x ∷ xs) ys in_a in_b = absurd in_a
one_step_to_all_runs a b step state [] [] (y ∷ ys) in_a in_b = absurd in_b
one_step_to_all_runs a b step state (i ∷ is) [] ys in_a in_b = absurd in_a
one_step_to_all_runs a b step state (i ∷ is) (x ∷ xs) [] in_a in_b = absurd in_b
one_step_to_all_runs a b step state (i ∷ is) (x ∷ xs) (y ∷ ys) in_a in_b =
    let here = step i state x y in_a.0 in_b.0 in
    let next : taken (b.sight y) 0 b.netlist.registers ≡ taken (a.sight x) 0 a.netlist.registers = sym here.next in
    let later : outputs_by a.sight a.netlist xs ≡ outputs_by b.sight b.netlist ys =
    one_step_to_all_runs a b step (taken (a.sight x) 0 a.netlist.registers) is xs ys in_a.1 (subst (λ (t : List ℕ). IsRunBy b.sight b.netlist t is ys) next in_b.1) in
    rw (here.outputs, later) refl

pub below_or_at : (n i : ℕ) → n < i + 1 → (n < i) ⊎ (n ≡ i)
below_or_at n i h = elim (cases_lt n i) [ inl a ↦ inl a | inr b ↦ inr (omega arith) ]

-- one number more
pub GivesAll-push : (a : Machine) (lists : List (List ℕ)) (list : List ℕ) → GivesAll a lists → GivesAt a (length lists) list → GivesAll a (lists ++ list ∷ [])
GivesAll-push a lists list all one n below = elim (below_or_at n (length lists) (omega (arith, below, length-append lists (list ∷ [])))) [
  | inl less ↦ subst (GivesAt a n) (sym (get_or_append_left lists (list ∷ []) [] n less)) (all n less)
  | inr same ↦ subst (λ (k : ℕ). GivesAt a k (get_or (lists ++ list ∷ []) k [])) (sym same) (subst (GivesAt a (length lists)) (sym (get_or-append_seam lists list [] [])) one)
]
