-- The netlist of a mutant gives what the design's readers see with the mutation.
use Rattle.step_trials.proofs.Common.{◌≡◌, ℕ, ◌/◌, ◌<◌, ◌^◌, List, [], ◌∷◌, ◌++◌, length, sym, ◌∙◌, ap, subst, arith, Bit, RawNetlist, Nets, plain, bits_at, q_bits, Holds, shown, Plan, IsSound}
use Rattle.step_trials.proofs.Common.{all_zero, OrderSettles, OneAnswerBySight, Site, sight_at, with_mutated, RunsAlike, HasEachRun, HasOneMore, design, mutant, OneStepEqual, joined, free_list, parts}
use Rattle.step_trials.proofs.Common.{inputs_of, state_of, HoldsAt, GivesAt, GivesAll}
use Rattle.netlist_core.specs.declared.port.Port as port
use Rattle.step_trials.proofs.Settles.{computed, computed-holds}
use Rattle.step_trials.proofs.TrialLemmas.{trials-equal, given-alike, alike-given}

-- the free bits of both are divided alike
inputs-same : (netlist mutated : RawNetlist) → HasOneMore netlist mutated → (n : ℕ) → inputs_of netlist n ≡ inputs_of mutated n
inputs-same netlist mutated more n = ap (λ (ports : List port.Port). parts (bits_at ports) n) (sym more.inputs)

state-same : (netlist mutated : RawNetlist) → HasOneMore netlist mutated → (n : ℕ) → state_of netlist n ≡ state_of mutated n
state-same netlist mutated more n =
    ap (λ (ports : List port.Port). parts (q_bits netlist.registers) (n / 2 ^ length (joined (bits_at ports)))) (sym more.inputs)
    ∙ ap (λ (qs : List (List Bit)). parts qs (n / 2 ^ length (joined (bits_at mutated.inputs)))) (sym more.registers)

pub free-same : (netlist mutated : RawNetlist) → HasOneMore netlist mutated → free_list mutated ≡ free_list netlist
free-same netlist mutated more =
    ap (λ (ports : List port.Port). joined (bits_at ports) ++ joined (q_bits mutated.registers)) more.inputs
    ∙ ap (λ (qs : List (List Bit)). joined (bits_at netlist.inputs) ++ joined qs) more.registers

-- what the mutant's netlist gives, the design gives to readers that see the mutated bit,
mutant-gives : (netlist mutated : RawNetlist) (site : Site) → HasEachRun netlist mutated site → HasOneMore netlist mutated → (n : ℕ) (list : List ℕ) → GivesAt (design mutated) n list → GivesAt (mutant netlist site) n list
mutant-gives netlist mutated site each more n list gives y in_y =
    let z : Nets = with_mutated netlist site each.fresh y in
    let ran = each.runs (state_of netlist n) (inputs_of netlist n ∷ []) (y ∷ []) (in_y, tt) in
    let in_z : HoldsAt (design mutated) n z =
    subst (λ (rs : List ℕ). Holds (plain z) z mutated (inputs_of mutated n) rs) (state-same netlist mutated more n)
    (subst (λ (is : List ℕ). Holds (plain z) z mutated is (state_of netlist n)) (inputs-same netlist mutated more n) ran.0) in
    let both : shown (plain z) mutated ∷ [] ≡ shown (sight_at netlist site y) netlist ∷ [] = each.outputs (y ∷ []) in
    let first : shown (plain z) mutated ≡ shown (sight_at netlist site y) netlist = cc in
    sym (alike-given (design mutated) (mutant netlist site) z y (record { outputs = first; next = each.next y })) ∙ gives z in_z

-- and where these are equal to the design, so is the mutant's netlist
netlist-gives : OrderSettles → OneAnswerBySight → (plan : Plan) → IsSound plan → (mutated : RawNetlist) (site : Site) → RunsAlike plan.raw mutated site → HasOneMore plan.raw mutated → OneStepEqual (design plan.raw) (mutant plan.raw site)
    → (n : ℕ) (list : List ℕ) → GivesAt (design plan.raw) n list → GivesAt (design mutated) n list
netlist-gives settles answers plan sound mutated site alike more equal n list gives z in_z =
    let raw : RawNetlist = plan.raw in
    let ins : List ℕ = inputs_of raw n in
    let regs : List ℕ = state_of raw n in
    let x : Nets = computed plan all_zero n in
    let in_x : HoldsAt (design raw) n x = computed-holds settles answers plan sound all_zero n in
    let here : Holds (plain z) z mutated ins regs =
    subst (λ (rs : List ℕ). Holds (plain z) z mutated ins rs) (sym (state-same raw mutated more n))
    (subst (λ (is : List ℕ). Holds (plain z) z mutated is (state_of mutated n)) (sym (inputs-same raw mutated more n)) in_z) in
    let ran = alike.runs regs (ins ∷ []) (z ∷ []) (here, tt) in
    let both : shown (plain z) mutated ∷ [] ≡ shown (sight_at raw site z) raw ∷ [] = alike.outputs regs (ins ∷ []) (z ∷ []) (here, tt) in
    let first : shown (plain z) mutated ≡ shown (sight_at raw site z) raw = cc in
    alike-given (design mutated) (mutant raw site) z z (record { outputs = first; next = alike.next ins regs z here })
    ∙ sym (alike-given (design raw) (mutant raw site) x z (equal ins regs x z in_x ran.0)) ∙ gives x in_x

-- So the trials decide one-step equality.
pub mutant-decides : OrderSettles → OneAnswerBySight → (plan : Plan) → IsSound plan → (mutated : RawNetlist) (site : Site) → RunsAlike plan.raw mutated site → HasEachRun plan.raw mutated site → HasOneMore plan.raw mutated
    → (lists : List (List ℕ)) → length lists ≡ 2 ^ length (free_list plan.raw) → GivesAll (design plan.raw) lists
    → (GivesAll (design mutated) lists → OneStepEqual (design plan.raw) (mutant plan.raw site)) × (OneStepEqual (design plan.raw) (mutant plan.raw site) → GivesAll (design mutated) lists)
mutant-decides settles answers plan sound mutated site alike each more lists count gives = (
  (λ all. trials-equal plan.raw (sight_at plan.raw site) (λ n below x y in_x in_y.
      let here : n < length lists = omega (arith, count, below) in
      given-alike plan.raw plain (sight_at plan.raw site) x y (gives n here x in_x ∙ sym (mutant-gives plan.raw mutated site each more n _ (all n here) y in_y)))),
  (λ equal n below. netlist-gives settles answers plan sound mutated site alike more equal n _ (gives n below)),
)
