-- How a simulation comes further, and what it comes to.
use Rattle.tb_turns.proofs.Common.{◌≡◌, ℕ, suc, ◌+◌, ◌-◌, ◌<◌, ◌≤◌, inl, inr, true, false, List, [], ◌∷◌, refl, sym, subst, arith, Setting, State, Ending, Finish, Limit, Outcome, outcome, Reaches}
use Rattle.tb_turns.proofs.Common.{IsSimulation, phases_of, InPieces, SimVerdict, IsWord, IsVerdict, IsAt, IsLast, IsRunTo, HasEnded}
use Rattle.tb_machine.specs.declared.phase_end.PhaseEnd.{PhaseEnd}
use Rattle.tb_machine.specs.declared.phase_end.PhaseEnd.TheVariants as e
use Rattle.tb_turns.specs.declared.verdict.SimVerdict.TheVariants as v
use Rattle.tb_turns.specs.Ends.{finishes}

-- a last phase within fewer phases is one within more
pub last_within : (g : Setting) (heard : List ℕ → Type 0) (start : State) (few many : ℕ) (ending : Ending) → few ≤ many → IsLast g heard start few ending → IsLast g heard start many ending
last_within g heard start few many ending more last = let within : last.before < few = last.fewer in record { before = last.before; fewer = omega arith; state = last.state; reached = last.reached; after = last.after; phase = last.phase; text = last.text }

-- phases that go on, and then one phase that ends, or none
sums : (before n : ℕ) → before < n → before + suc (n - before - 1) ≡ n
sums before n fewer = omega arith

pub simulated : InPieces → (g : Setting) (start s : State) (before n : ℕ) (o : Outcome) → before < n → Reaches g before start s → ((m : ℕ) → IsSimulation g (suc m) s o) → IsSimulation g n start o
simulated pieces g start s before n o fewer reached rest =
    let P : ℕ → Type 0 = λ k. IsSimulation g k start o in
    subst P (sums before n fewer) (pieces g before (suc (n - before - 1)) start s o reached (rest (n - before - 1)))

pub finished : InPieces → (g : Setting) (heard : List ℕ → Type 0) (start : State) (n : ℕ) (last : IsLast g heard start n Finish) → IsSimulation g n start (outcome true last.after.text)
finished pieces g heard start n last = simulated pieces g start last.state last.before n (outcome true last.after.text) last.fewer last.reached (λ m. (Finish, last.after, last.phase, refl))

pub too_long : InPieces → (g : Setting) (heard : List ℕ → Type 0) (start : State) (n : ℕ) (last : IsLast g heard start n Limit) → IsSimulation g n start (outcome false last.after.text)
too_long pieces g heard start n last = simulated pieces g start last.state last.before n (outcome false last.after.text) last.fewer last.reached (λ m. (Limit, last.after, last.phase, refl))

pub all_went_on : InPieces → (g : Setting) (start s : State) (n : ℕ) → Reaches g n start s → IsSimulation g n start (outcome false s.text)
all_went_on pieces g start s n reached =
    let P : ℕ → Type 0 = λ k. IsSimulation g k start (outcome false s.text) in
    let same : n + 0 ≡ n = omega arith in
    subst P same (pieces g n 0 start s (outcome false s.text) reached refl)

-- what ended within so many phases
pub ended_by_finish : (g : Setting) (heard : List ℕ → Type 0) (start : State) (n : ℕ) → IsLast g heard start n Finish → HasEnded g start n
ended_by_finish g heard start n last = record { before = last.before; fewer = last.fewer; state = last.state; reached = last.reached; ending = Finish; after = last.after; phase = last.phase; last = inl refl }

pub ended_by_limit : (g : Setting) (heard : List ℕ → Type 0) (start : State) (n : ℕ) → IsLast g heard start n Limit → HasEnded g start n
ended_by_limit g heard start n last = record { before = last.before; fewer = last.fewer; state = last.state; reached = last.reached; ending = Limit; after = last.after; phase = last.phase; last = inr refl }

-- what a simulation comes to, by how its phases ended
pub told : InPieces → (g : Setting) (stands : State → Type 0) (start : State) (n : ℕ) (text : List ℕ) (end : PhaseEnd) → IsRunTo g stands (λ t. text ≡ t) start n end → IsSimulation g n start (outcome (finishes end) text)
told pieces g stands start n text e.Going at =
    let P : List ℕ → Type 0 = λ t. IsSimulation g n start (outcome false t) in
    subst P (sym at.text) (all_went_on pieces g start at.state n at.reached)
told pieces g stands start n text e.Finished last =
    let P : List ℕ → Type 0 = λ t. IsSimulation g n start (outcome true t) in
    subst P (sym last.text) (finished pieces g (λ t. text ≡ t) start n last)
told pieces g stands start n text e.TooLong last =
    let P : List ℕ → Type 0 = λ t. IsSimulation g n start (outcome false t) in
    subst P (sym last.text) (too_long pieces g (λ t. text ≡ t) start n last)

-- Verdicts.

pub hangs_at_the_end : InPieces → (g : Setting) (stands : State → Type 0) (heard : List ℕ → Type 0) (start : State) (n limit : ℕ) (pass fail : List ℕ) → n ≡ phases_of limit → IsAt g stands heard start n → IsVerdict g start limit pass fail v.Hang
hangs_at_the_end pieces g stands heard start n limit pass fail same at =
    let P : ℕ → Type 0 = λ k. IsSimulation g k start (outcome false at.state.text) in
    record { outcome = outcome false at.state.text; simulated = subst P same (all_went_on pieces g start at.state n at.reached); word = refl }

pub hangs_in_a_phase : InPieces → (g : Setting) (heard : List ℕ → Type 0) (start : State) (n limit : ℕ) (pass fail : List ℕ) → n ≤ phases_of limit → IsLast g heard start n Limit → IsVerdict g start limit pass fail v.Hang
hangs_in_a_phase pieces g heard start n limit pass fail within last =
    let all : IsLast g heard start (phases_of limit) Limit = last_within g heard start n (phases_of limit) Limit within last in
    record { outcome = outcome false all.after.text; simulated = too_long pieces g heard start (phases_of limit) all; word = refl }

pub has_its_word : InPieces → (g : Setting) (heard : List ℕ → Type 0) (start : State) (n limit : ℕ) (pass fail : List ℕ) (verdict : SimVerdict) → n ≤ phases_of limit → IsLast g heard start n Finish → ((text : List ℕ) → heard text → IsWord (outcome true text) pass fail verdict) → IsVerdict g start limit pass fail verdict
has_its_word pieces g heard start n limit pass fail verdict within last word =
    let all : IsLast g heard start (phases_of limit) Finish = last_within g heard start n (phases_of limit) Finish within last in
    record { outcome = outcome true all.after.text; simulated = finished pieces g heard start (phases_of limit) all; word = word all.after.text all.text }

-- the two texts that a watch listens for
pub first_same : (a b c d : List ℕ) → a ∷ b ∷ [] ≡ c ∷ d ∷ [] → a ≡ c
first_same a b c d same = cc

pub second_same : (a b c d : List ℕ) → a ∷ b ∷ [] ≡ c ∷ d ∷ [] → b ≡ d
second_same a b c d same = cc
