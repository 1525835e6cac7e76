use Rattle.gate_clauses.proofs.Common.{◌≡◌, ◌+◌, ◌<◌, ◌++◌, ◌∷◌, [], ℕ, ℤ, List, take, get_or, length, Bool, false, sym, arith, ◌∙◌, rules, w32, FitsSigned, to_z-of_z, length-take, append-nil}
use Rattle.gate_clauses.proofs.Common.{GateLit, Fixed, Var, open_lits}
use Rattle.gate_clauses.proofs.Pushing.{open-more, open-few}
use Rattle.gate_clauses.proofs.encode.push_one.Goals as goal
use Rattle.gate_clauses.proofs.encode.push_one.Goals.{in-Var+in_ok-push, in_default}

-- the items after a literal of a variable, as it was read
pushed : (lits : List GateLit) (i : ℕ) (l m : ℤ) (items new : List ℤ) → items ≡ open_lits (take i lits) → new ≡ items ++ m ∷ [] → m ≡ l → i < length lits → get_or lits i (Var l) ≡ Var l → new ≡ open_lits (take (i + 1) lits)
pushed lits i l m items new before is same within at = rw (is, before, same) (sym (open-more lits i (Var l) (Var l) within at))

kept : (lits : List GateLit) (i : ℕ) (b : Bool) → i < length lits → get_or lits i (Fixed false) ≡ Fixed b → open_lits (take i lits) ≡ open_lits (take (i + 1) lits)
kept lits i b within at = sym (open-more lits i (Fixed false) (Fixed b) within at ∙ append-nil (open_lits (take i lits)))

pub loop-literal-preserved : goal.loop-literal-preserved
loop-literal-preserved c = elim c.match-literal.branch [
  | in-Var+in_ok-push w ↦
      let fits : FitsSigned w32 w.in-Var.literal = search rules in
      let at : get_or c.args.literals.now c.loop-literal.literal-index (Var w.in-Var.literal) ≡ Var w.in-Var.literal = search rules in
      rw w.clause-is (pushed c.args.literals.now c.loop-literal.literal-index w.in-Var.literal _ c.loop-literal.clause.items w.push.new.self.items c.loop-literal.invariant w.in_ok-push.ensures.items (to_z-of_z w32 w.in-Var.literal fits) c.loop-literal-test.true at)
  | in_default w ↦ rw (w.clause-is, c.loop-literal.invariant) (kept c.args.literals.now c.loop-literal.literal-index w.in_default.field-0 c.loop-literal-test.true w.in_default.is)
]

pub push-requires-2-clause-room : goal.push-requires-2-clause-room
push-requires-2-clause-room c = rw (c.as_slice.ensures.value, c.loop-literal.invariant) (omega (arith, open-few (take c.loop-literal.literal-index c.args.literals.now), length-take c.loop-literal.literal-index c.args.literals.now, c.requires.few, c.requires.room))
