-- Simulations from one state come to one outcome, and end in one phase, where stores stay of a kind from which what settles is determined.
use Rattle.tb_once.proofs.Common.{◌≡◌, ℕ, zero, suc, ◌<◌, true, false, List, refl, sym, ◌∙◌, subst, arith, World, all_applied, Suspended, Ran, Pauses, Finished, TooLong, Setting, State, Settles}
use Rattle.tb_once.proofs.Common.{Ending, Going, Finish, Limit, IsEnd, IsPhaseOf, IsPhase, active_part}
use Rattle.rand_pcg.specs.Lcg.{Lcg}
use Rattle.tb_machine.specs.Simulations.{Outcome, outcome, IsSimulation, Reaches}

-- stores of a kind stay so in a phase, and from one of them what settles is determined
pub record IsSteady (g : Setting) (Kind : List ℕ → Type 0) : Type 0 where
  pub active : (s : State) (left : ℕ) (ps : List Suspended) (w : World) → Kind s.store → active_part g s ≡ Pauses left ps w → Kind (all_applied w.store w.updates)
  pub settled : (phase : ℕ) (registers before after next : List ℕ) → Kind before → Settles g phase registers before after next → Kind after
  pub once : (phase : ℕ) (registers before a b next later : List ℕ) → Kind a → Kind b → Settles g phase registers before a next → Settles g phase registers before b later → (a ≡ b) × (next ≡ later)

-- a state from its parts
state : ℕ → List ℕ → List ℕ → List ℕ → List Suspended → Lcg → List ℕ → State
state phase store registers next initial words text = record { phase = phase; store = store; registers = registers; next = next; initial = initial; words = words; text = text }

state-is : (a : State) → state a.phase a.store a.registers a.next a.initial a.words a.text ≡ a
unfolding state
state-is a = refl

-- what holds of the state where a phase goes on
abbrev Kept : (List ℕ → Type 0) → Ending → State → Type 0
Kept Kind Going t = Kind t.store
Kept Kind Finish t = Unit {0}
Kept Kind Limit t = Unit {0}

abbrev Then : Setting → ℕ → Outcome → Ending → State → Type 0
Then g n o Going t = IsSimulation g n t o
Then g n o Finish t = o ≡ outcome true t.text
Then g n o Limit t = o ≡ outcome false t.text

module _ (g : Setting) (Kind : List ℕ → Type 0) (steady : IsSteady g Kind) where
  same_end : (s : State) (ps : List Suspended) (w : World) (a b : State) → Kind (all_applied w.store w.updates) → IsEnd g s ps w a → IsEnd g s ps w b → (a ≡ b) × Kind a.store
  same_end s ps w a b kind x y =
      let registers : a.registers ≡ b.registers = x.registers ∙ sym y.registers in
      let first : Settles g s.phase b.registers (all_applied w.store w.updates) a.store a.next = rw registers at x.settles in
      let one : Kind a.store = steady.settled s.phase b.registers (all_applied w.store w.updates) a.store a.next kind first in
      let two : Kind b.store = steady.settled s.phase b.registers (all_applied w.store w.updates) b.store b.next kind y.settles in
      let same : (a.store ≡ b.store) × (a.next ≡ b.next) = steady.once s.phase b.registers (all_applied w.store w.updates) a.store b.store a.next b.next one two first y.settles in
      let phase : a.phase ≡ b.phase = x.phase ∙ sym y.phase in
      let initial : a.initial ≡ b.initial = x.initial_is ∙ sym y.initial_is in
      let words : a.words ≡ b.words = x.words ∙ sym y.words in
      let text : a.text ≡ b.text = x.text ∙ sym y.text in
      let store : a.store ≡ b.store = same.0 in
      let next : a.next ≡ b.next = same.1 in
      let all : state a.phase a.store a.registers a.next a.initial a.words a.text ≡ state b.phase b.store b.registers b.next b.initial b.words b.text = cc (phase, store, registers, next, initial, words, text) in
      (sym (state-is a) ∙ all ∙ state-is b, one)

  -- the two ends of one phase are one
  same_phase : (s : State) (ran : Ran (List Suspended)) (e f : Ending) (a b : State) → Kind s.store → active_part g s ≡ ran → IsPhaseOf g s ran e a → IsPhaseOf g s ran f b → (e ≡ f) × (a ≡ b) × Kept Kind e a
  same_phase s (Pauses left ps w) Going Going a b kind is x y = let end = same_end s ps w a b (steady.active s left ps w kind is) x y in (refl, end.0, end.1)
  same_phase s (Finished w) Finish Finish a b kind is x y = (refl, x ∙ sym y, tt)
  same_phase s (TooLong w) Limit Limit a b kind is x y = (refl, x ∙ sym y, tt)
  same_phase s (Pauses left ps w) Going Finish a b kind is x y = absurd y
  same_phase s (Pauses left ps w) Going Limit a b kind is x y = absurd y
  same_phase s (Pauses left ps w) Finish f a b kind is x y = absurd x
  same_phase s (Pauses left ps w) Limit f a b kind is x y = absurd x
  same_phase s (Finished w) Going f a b kind is x y = absurd x
  same_phase s (Finished w) Limit f a b kind is x y = absurd x
  same_phase s (Finished w) Finish Going a b kind is x y = absurd y
  same_phase s (Finished w) Finish Limit a b kind is x y = absurd y
  same_phase s (TooLong w) Going f a b kind is x y = absurd x
  same_phase s (TooLong w) Finish f a b kind is x y = absurd x
  same_phase s (TooLong w) Limit Going a b kind is x y = absurd y
  same_phase s (TooLong w) Limit Finish a b kind is x y = absurd y

  moved : (n : ℕ) (o : Outcome) (e f : Ending) (a b : State) → e ≡ f → a ≡ b → Then g n o f b → Then g n o e a
  moved n o e f a b same there rest = let P : Ending → Type 0 = λ x. Then g n o x a in let Q : State → Type 0 = λ t. Then g n o f t in subst P (sym same) (subst Q (sym there) rest)

  -- what comes after a phase, if what comes after one that goes on is one
  next_same : (n : ℕ) → ((s : State) (o p : Outcome) → Kind s.store → IsSimulation g n s o → IsSimulation g n s p → o ≡ p) → (o p : Outcome) (e : Ending) (a : State) → Kept Kind e a → Then g n o e a → Then g n p e a → o ≡ p
  next_same n on o p Going a kept x y = on a o p kept x y
  next_same n on o p Finish a kept x y = x ∙ sym y
  next_same n on o p Limit a kept x y = x ∙ sym y

  after_one : (n : ℕ) (s : State) (o : Outcome) → IsSimulation g (suc n) s o → (e : Ending) × (t : State) × IsPhase g s e t × Then g n o e t
  after_one n s o (Going, t, x, more) = (Going, t, x, more)
  after_one n s o (Finish, t, x, more) = (Finish, t, x, more)
  after_one n s o (Limit, t, x, more) = (Limit, t, x, more)

  pub one_outcome : (n : ℕ) (s : State) (o p : Outcome) → Kind s.store → IsSimulation g n s o → IsSimulation g n s p → o ≡ p
  one_outcome zero s o p kind x y = x ∙ sym y
  one_outcome (suc n) s o p kind x y =
      let u = after_one n s o x in
      let v = after_one n s p y in
      let same = same_phase s (active_part g s) u.0 v.0 u.1 v.1 kind refl u.2 v.2 in
      next_same n (λ t q r h d e. one_outcome n t q r h d e) o p u.0 u.1 same.2 u.3 (moved n p u.0 v.0 u.1 v.1 same.0 same.1 v.3)

  -- where so many phases go on, the phase behind fewer of them does
  pub goes_on : (n before : ℕ) (s t u v : State) (e : Ending) → Kind s.store → before < n → Reaches g n s t → Reaches g before s u → IsPhase g u e v → e ≡ Going
  goes_on zero before s t u v e kind less all some phase = absurd (omega (arith, less))
  goes_on (suc n) zero s t u v e kind less (w, first, rest) some phase =
      let same = same_phase s (active_part g s) Going e w v kind refl first (subst (λ (x : State). IsPhase g x e v) some phase) in
      sym same.0
  goes_on (suc n) (suc before) s t u v e kind less (w, first, rest) (x, second, more) phase =
      let same = same_phase s (active_part g s) Going Going w x kind refl first second in
      goes_on n before w t u v e same.2 (omega (arith, less)) rest (subst (λ (y : State). Reaches g before y u) (sym same.1) more) phase
