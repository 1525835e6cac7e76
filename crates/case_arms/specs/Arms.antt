-- The arms of a case, by places in the list of its items (IEEE 1364-2005, 9.5).
use Rattle.std.specs.Prelude.{◌≡◌, ◌<◌, ℕ, zero, suc, true, false, List, [], ◌∷◌, map, take, Option, None, Some}
use Rattle.std.specs.Option.{option_map}
use Rattle.vlog_syntax.specs.declared.expr.Expr.{Expr}
use Rattle.vlog_syntax.specs.declared.stmt.CaseItem.{CaseItem, out-CaseItem}
use Rattle.vlog_effects.specs.Laws.{item_steps}
use Rattle.vlog_effects.specs.Steps.{Steps, Done, InNames, Item, Selection, Arms, Otherwise, Arm, steps_of, labelled, always, done_by, arms_of}
use Rattle.elab_proc.specs.Refusals.{labels_in}
use Rattle.case_arms.specs.declared.chosen.Chosen.{Chosen}

-- what the item at a place does
abbrev pub item_body : List CaseItem → ℕ → InNames
item_body [] k = λ names. Done
item_body (i ∷ more) zero = steps_of (out-CaseItem i).body
item_body (i ∷ more) (suc k) = item_body more k

-- these items as arms, and what is done where none of them matches
abbrev pub arms_with : Selection → List Item → Steps → Arms
arms_with c [] last = Otherwise last
arms_with c (i ∷ more) last = Arm i.place i.labels (i.body c.names) (arms_with c more last)

-- the items with labels before a place as arms, and the body of an item where none of them matches
abbrev pub arms_by : Selection → List CaseItem → Chosen → Arms
arms_by c items chosen = arms_with c (labelled (map item_steps (take chosen.before items))) (done_by (option_map (item_body items) chosen.last) c.names)

-- For proofs alone.

abbrev pub labels_at : List CaseItem → ℕ → List Expr
labels_at [] k = []
labels_at (i ∷ more) zero = labels_in i
labels_at (i ∷ more) (suc k) = labels_at more k

-- the same, up to an item that matches whatever the selector is
abbrev pub arms_within : Selection → List CaseItem → Chosen → Arms
arms_within c items chosen = arms_of c (labelled (map item_steps (take chosen.before items))) (option_map (item_body items) chosen.last)

-- no item matches whatever the selector is
abbrev pub NoneFree : Selection → List CaseItem → Type 0
NoneFree c [] = Unit {0}
NoneFree c (i ∷ more) = (always c (labels_in i) ≡ false) × NoneFree c more

-- the place of the first of the items before another that matches whatever the selector is
abbrev pub IsFirstFree : Selection → List CaseItem → ℕ → Option ℕ → Type 0
IsFirstFree c items before None = NoneFree c (take before items)
IsFirstFree c items before (Some k) = (k < before) × (always c (labels_at items k) ≡ true) × NoneFree c (take k items)
