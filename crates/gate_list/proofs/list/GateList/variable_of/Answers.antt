use Rattle.gate_list.proofs.Common.{arith, ◌≡◌, ◌<◌, ◌≤◌, ◌^◌, ◌∷◌, [], length, ℕ, suc, ◌+◌, Bool, true, false, List, ◌++◌, pos, refl, if◌then◌else◌, list_any, position_or_len, Gate, length-append}
use Rattle.gate_list.proofs.Common.{GateLit, Reads, AreOrdered, same_gate, with_gate, eq-value}
use Rattle.gate_list.specs.declared.literal.GateLit.TheVariants.{Var}
use Rattle.gate_list.proofs.Same.{same-is, any-agree, position-agree}
use Rattle.gate_list.proofs.Values.{ordered-push}
use Rattle.gate_list.proofs.list.GateList.variable_of.Goals as goal
use Rattle.gate_list.proofs.list.GateList.variable_of.Goals.{in-Ok, in-Err}

grown : (free : ℕ) (gates : List Gate) (gate : Gate) (b : Bool) → (free ≤ 2048) × (length gates ≤ 2 ^ 30) × AreOrdered free gates → length gates < 2 ^ 30 → Reads (free + length gates) gate → (free ≤ 2048) × (length (if b then gates else gates ++ gate ∷ []) ≤ 2 ^ 30) × AreOrdered free (if b then gates else gates ++ gate ∷ [])
grown free gates gate true inv room reads = inv
grown free gates gate false inv room reads = (inv.0, simp (length-append) (omega (arith, room)), ordered-push free gates gate inv.2 reads)

pub invariant_of-self : goal.invariant_of-self
invariant_of-self c = elim c.match-insert_full.branch [
  | in-Ok w ↦ rw (rw w.in-Ok.is at c.insert_full.ensures.keys) (grown c.self.inside.free c.self.inside.gates.keys c.args.gate (list_any (eq-value.it c.args.gate) c.self.inside.gates.keys) c.self.invariant (rw (← c.self.view_is) at c.requires.room) (rw (← c.self.view_is) at c.requires.reads))
  | in-Err w ↦ rw (rw w.in-Err.is at c.insert_full.ensures.err) c.self.invariant
]

made : (free : ℕ) (gates new : List Gate) (gate : Gate) (place : ℕ) (lit : GateLit) → new ≡ (if list_any (eq-value.it gate) gates then gates else gates ++ gate ∷ []) → place ≡ position_or_len (eq-value.it gate) gates → lit ≡ Var (pos (free + 1 + place)) → record { gates = record { free = free; made = new }; lit = lit } ≡ with_gate (record { free = free; made = gates }) gate
made free gates new gate place lit is at var =
    let number : free + 1 + place ≡ suc (free + place) = omega arith in
    let any : list_any (eq-value.it gate) gates ≡ list_any (same_gate gate) gates = any-agree (eq-value.it gate) (same_gate gate) (same-is gate) gates in
    let first : position_or_len (eq-value.it gate) gates ≡ position_or_len (same_gate gate) gates = position-agree (eq-value.it gate) (same_gate gate) (same-is gate) gates in
    rw (var, number, is, at, any, first) refl

pub returns-clause-made : goal.returns-clause-made
returns-clause-made c = elim c.match-insert_full.branch [
  | in-Ok w ↦
      let is = (rw w.in-Ok.is at c.insert_full.ensures.keys) in
      let at = (rw w.in-Ok.is at c.insert_full.ensures.index) in
      rw (w.result-is, ← c.self.view_is) (made c.self.inside.free c.self.inside.gates.keys c.insert_full.new.self.keys c.args.gate w.in-Ok.place w.variable.result is at w.variable.ensures)
  | in-Err w ↦ rw w.result-is tt
]
