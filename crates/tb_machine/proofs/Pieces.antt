-- A simulation in pieces is the simulation at once, and there is only one.
use Rattle.tb_machine.proofs.Common.{◌≡◌, ℕ, zero, suc, ◌+◌, true, false, List, refl, sym, ◌∙◌, subst, arith, World, all_applied, Suspended, Ran, Pauses, Finished, TooLong, Setting, State, Ending}
use Rattle.tb_machine.proofs.Common.{Going, Finish, Limit, IsEnd, IsPhaseOf, IsPhase, active_part}
use Rattle.rand_pcg.specs.Lcg.{Lcg}
use Rattle.tb_machine.specs.Simulations.{Outcome, outcome, Reaches, IsSimulation}
use Rattle.tb_machine.specs.Laws.{SettlesOnce}

-- phases that go on, and then a simulation
pub in_pieces : (g : Setting) (n m : ℕ) (s t : State) (o : Outcome) → Reaches g n s t → IsSimulation g m t o → IsSimulation g (n + m) s o
in_pieces g zero m s t o is rest = let same : 0 + m ≡ m = omega arith in rw (same, ← is) rest
in_pieces g (suc n) m s t o (u, phase, more) rest = let same : suc n + m ≡ suc (n + m) = omega arith in rw same (Going, u, phase, in_pieces g n m u t o more rest)

-- one phase more
pub one_more : (g : Setting) (n : ℕ) (s t u : State) → Reaches g n s t → IsPhase g t Going u → Reaches g (suc n) s u
one_more g zero s t u is phase = (u, rw (← is) phase, refl)
one_more g (suc n) s t u (v, first, more) phase = (v, first, one_more g n v t u more phase)

-- a state from its parts
state : ℕ → List ℕ → List ℕ → List ℕ → List Suspended → Lcg → List ℕ → State
state phase store registers next initial words text = record { phase = phase; store = store; registers = registers; next = next; initial = initial; words = words; text = text }

state-is : (a : State) → state a.phase a.store a.registers a.next a.initial a.words a.text ≡ a
unfolding state
state-is a = refl

same_end : (g : Setting) (s : State) (ps : List Suspended) (w : World) (a b : State) → SettlesOnce g → IsEnd g s ps w a → IsEnd g s ps w b → a ≡ b
same_end g s ps w a b once x y =
    let registers : a.registers ≡ b.registers = x.registers ∙ sym y.registers in
    let settled : (a.store ≡ b.store) × (a.next ≡ b.next) = once s.phase b.registers (all_applied w.store w.updates) a.store a.next b.store b.next (rw registers at x.settles) y.settles in
    let phase : a.phase ≡ b.phase = x.phase ∙ sym y.phase in
    let initial : a.initial ≡ b.initial = x.initial_is ∙ sym y.initial_is in
    let words : a.words ≡ b.words = x.words ∙ sym y.words in
    let text : a.text ≡ b.text = x.text ∙ sym y.text in
    let store : a.store ≡ b.store = settled.0 in
    let next : a.next ≡ b.next = settled.1 in
    let same : state a.phase a.store a.registers a.next a.initial a.words a.text ≡ state b.phase b.store b.registers b.next b.initial b.words b.text = cc (phase, store, registers, next, initial, words, text) in
    sym (state-is a) ∙ same ∙ state-is b

abbrev Then : Setting → ℕ → Outcome → Ending → State → Type 0
Then g n o Going t = IsSimulation g n t o
Then g n o Finish t = o ≡ outcome true t.text
Then g n o Limit t = o ≡ outcome false t.text

-- one of two ends of the same phase gives what the other gives
same_phase : (g : Setting) (s : State) (ran : Ran (List Suspended)) (e f : Ending) (a b : State) → SettlesOnce g → IsPhaseOf g s ran e a → IsPhaseOf g s ran f b → (e ≡ f) × (a ≡ b)
same_phase g s (Pauses left ps w) Going Going a b once x y = (refl, same_end g s ps w a b once x y)
same_phase g s (Finished w) Finish Finish a b once x y = (refl, x ∙ sym y)
same_phase g s (TooLong w) Limit Limit a b once x y = (refl, x ∙ sym y)
same_phase g s (Pauses left ps w) Going Finish a b once x y = absurd y
same_phase g s (Pauses left ps w) Going Limit a b once x y = absurd y
same_phase g s (Pauses left ps w) Finish f a b once x y = absurd x
same_phase g s (Pauses left ps w) Limit f a b once x y = absurd x
same_phase g s (Finished w) Going f a b once x y = absurd x
same_phase g s (Finished w) Limit f a b once x y = absurd x
same_phase g s (Finished w) Finish Going a b once x y = absurd y
same_phase g s (Finished w) Finish Limit a b once x y = absurd y
same_phase g s (TooLong w) Going f a b once x y = absurd x
same_phase g s (TooLong w) Finish f a b once x y = absurd x
same_phase g s (TooLong w) Limit Going a b once x y = absurd y
same_phase g s (TooLong w) Limit Finish a b once x y = absurd y

moved : (g : Setting) (n : ℕ) (o : Outcome) (e f : Ending) (a b : State) → e ≡ f → a ≡ b → Then g n o f b → Then g n o e a
moved g n o e f a b same there rest = let P : Ending → Type 0 = λ x. Then g n o x a in let Q : State → Type 0 = λ t. Then g n o f t in subst P (sym same) (subst Q (sym there) rest)

-- a simulation comes to one outcome
pub one_outcome : (g : Setting) (n : ℕ) (s : State) (o p : Outcome) → SettlesOnce g → IsSimulation g n s o → IsSimulation g n s p → o ≡ p
one_outcome g zero s o p once x y = x ∙ sym y
one_outcome g (suc n) s o p once (Going, a, x, more) (Going, b, y, rest) = let same = same_phase g s (active_part g s) Going Going a b once x y in one_outcome g n a o p once more (moved g n p Going Going a b same.0 same.1 rest)
one_outcome g (suc n) s o p once (Finish, a, x, more) (Finish, b, y, rest) = let same = same_phase g s (active_part g s) Finish Finish a b once x y in more ∙ sym (moved g n p Finish Finish a b same.0 same.1 rest)
one_outcome g (suc n) s o p once (Limit, a, x, more) (Limit, b, y, rest) = let same = same_phase g s (active_part g s) Limit Limit a b once x y in more ∙ sym (moved g n p Limit Limit a b same.0 same.1 rest)
one_outcome g (suc n) s o p once (Going, a, x, more) (Finish, b, y, rest) = let e : Going ≡ Finish = (same_phase g s (active_part g s) Going Finish a b once x y).0 in cc
one_outcome g (suc n) s o p once (Going, a, x, more) (Limit, b, y, rest) = let e : Going ≡ Limit = (same_phase g s (active_part g s) Going Limit a b once x y).0 in cc
one_outcome g (suc n) s o p once (Finish, a, x, more) (Going, b, y, rest) = let e : Finish ≡ Going = (same_phase g s (active_part g s) Finish Going a b once x y).0 in cc
one_outcome g (suc n) s o p once (Finish, a, x, more) (Limit, b, y, rest) = let e : Finish ≡ Limit = (same_phase g s (active_part g s) Finish Limit a b once x y).0 in cc
one_outcome g (suc n) s o p once (Limit, a, x, more) (Going, b, y, rest) = let e : Limit ≡ Going = (same_phase g s (active_part g s) Limit Going a b once x y).0 in cc
one_outcome g (suc n) s o p once (Limit, a, x, more) (Finish, b, y, rest) = let e : Limit ≡ Finish = (same_phase g s (active_part g s) Limit Finish a b once x y).0 in cc
