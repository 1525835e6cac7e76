use Rattle.case_arms.proofs.Common.{◌≡◌, ℕ, ◌||◌, take, names_of, Selection, is_named, IsOf, has}
use Rattle.case_arms.proofs.named.add_named.Given as goal

abbrev pub invariant-loop-label : goal.invariant-loop-label
invariant-loop-label l = (c : Selection) → IsOf c (names_of l.scope) l.fn.kind l.fn.size → (v : ℕ) → has l.values.items v ≡ (has l.fn.values.items v || is_named c v (take l.label-index l.labels))
