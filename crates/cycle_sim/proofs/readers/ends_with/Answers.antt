use Rattle.cycle_sim.proofs.Common.{◌≡◌, ℕ, ◌-◌, ◌≤◌, true, false, List, length, get_or, sym, ◌∙◌, inl, inr, arith, IsTrue, Contains, eqb_tells, get_or_default}
use Rattle.std.specs.Prelude.{nat_eq}
use Rattle.cycle_sim.proofs.readers.ends_with.Goals as goal

is-last : (list : List ℕ) (place : ℕ) → 1 ≤ length list → IsTrue (nat_eq (get_or list (length list - 1) 0) place) → Contains list place
is-last list place some h = elim (eqb_tells (get_or list (length list - 1) 0) place) [
  | inl same ↦ (length list - 1, omega (arith, some), get_or_default list (length list - 1) place 0 (omega (arith, some)) ∙ same.1)
  | inr other ↦ absurd (let e : false ≡ true = sym other.0 ∙ h in cc)
]

pub returns-in-len1-up : goal.returns-in-len1-up
returns-in-len1-up c = is-last c.args.list.now c.args.place (omega (arith, c.in-len1-up.len_at_least))
