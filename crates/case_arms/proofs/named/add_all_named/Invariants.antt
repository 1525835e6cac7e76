use Rattle.case_arms.proofs.Common.{◌≡◌, ℕ, ◌||◌, take, flat_map, names_of, Selection, is_named, labels_in, IsOf, has}
use Rattle.case_arms.proofs.named.add_all_named.Given as goal

abbrev pub invariant-loop-item : goal.invariant-loop-item
invariant-loop-item l = (c : Selection) → IsOf c (names_of l.scope) l.fn.kind l.fn.size → (v : ℕ) → has l.values.items v ≡ (has l.fn.values.items v || is_named c v (flat_map labels_in (take l.item-index l.items)))
