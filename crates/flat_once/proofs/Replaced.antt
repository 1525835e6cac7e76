-- What stands in the place of a part is one.
use Rattle.flat_once.proofs.Common.{◌≡◌, ℕ, true≢false, Bool, true, false, List, [], ◌∷◌, ◌++◌, Option, None, Some, Result, Ok, Err, refl, sym, ap, ◌∙◌, subst, slice_get, Identifier, GenerateLoop}
use Rattle.flat_once.proofs.Common.{Item, out-Item, Item-F, Module, Placing, What, unopened, Place, Task, Turn}
use Rattle.vlog_syntax.specs.declared.item.Item.TheVariants as i
use Rattle.vlog_syntax.specs.declared.item.Item.TheOpen as o
use Rattle.flat_instances.specs.declared.error.ItemError.{ItemError}
use Rattle.flat_instances.specs.declared.error.ItemError.TheVariants.{Scopes}
use Rattle.flat_instances.specs.declared.item.FlatItem.TheVariants as f
use Rattle.flat_items.specs.declared.task.Task.TheVariants as t
use Rattle.flat_items.specs.declared.turn.Outcome.{Outcome}
use Rattle.flat_items.specs.declared.turn.Outcome.TheVariants.{Goes, Ends, Refused}
use Rattle.flat_items.specs.Flattened.{Flat, add_all, is_full, step_items, step_tasks, module_at, placed_in, condition_in, integer_in, taken_tasks, chosen_tasks, label_of, IsBlockName, OpensBlock}
use Rattle.flat_items.specs.Flattened.{Sees, genvar_fault, turn_start}
use Rattle.flat_items.specs.Replacing.{PlacesInstance, TurnsOnce, Replaces, step, refused, not_placed, placed, condition, arm_null, arm_condition, arm_full, arm_block, bad_genvar, bad_start, loop}
use Rattle.flat_items.specs.Replacing.{turn_ended, bad_turn, turn, no_construct, first_turn, is_block_form, is_construct_form, outcome}
use Rattle.flat_once.proofs.Forms.{out-loop, out-if, out-null}
use Rattle.flat_once.proofs.Names.{block_name_once, sees_once}
use Rattle.flat_once.proofs.Parts.{AreSame, one_there, block_once, places_once, turns_once}

-- What stands in the place of a part and is there then, by what is looked up for the part.

-- just these, and this
abbrev Is : (tasks : List Task) → (next : Flat) → List Task → Flat → Type 0
Is tasks next others after = (others ≡ tasks) × (after ≡ next)

-- the scope of this number is there
abbrev InPlace : Flat → ℕ → (Place → Type 0) → Type 0
InPlace flat k P = (place : Place) × (slice_get flat.places k ≡ Some place) × P place

abbrev Placed : List Module → ℕ → Place → Placing → Flat → List Task → Flat → Result ℕ ItemError → Type 0
Placed modules k place x flat tasks next (Err error) = Is (t.Refuses error ∷ []) flat tasks next
Placed modules k place x flat tasks next (Ok n) = PlacesInstance modules n k place x flat tasks next

abbrev Started : ℕ → ℕ → GenerateLoop → Item → Option Identifier → Flat → List Task → Flat → Place → Result ℕ ItemError → Type 0
Started k n head body taken flat tasks next place (Err error) = Is (t.Refuses error ∷ []) flat tasks next
Started k n head body taken flat tasks next place (Ok value) = (name : List ℕ) × IsBlockName place.own n (label_of body) name × Is (t.Turn k (first_turn name head body value taken) ∷ []) flat tasks next

abbrev Looped : ℕ → ℕ → GenerateLoop → Item → Option Identifier → Flat → List Task → Flat → Option ItemError → Type 0
Looped k n head body taken flat tasks next (Some error) = Is (t.Refuses error ∷ []) flat tasks next
Looped k n head body taken flat tasks next None = InPlace flat k (λ (place : Place). Started k n head body taken flat tasks next place (integer_in place.names head.start))

abbrev Constructed : ℕ → ℕ → Option Identifier → Flat → List Task → Flat → Item-F Item → Type 0
Constructed k n taken flat tasks next (o.IfGenerate at c first second) = InPlace flat k (λ (place : Place). Is (chosen_tasks k n (condition_in place.names c) first second taken) flat tasks next)
Constructed k n taken flat tasks next (o.LoopGenerate head body) = (what : Option What) × Sees flat.places head.name.name k what × Looped k n head body taken flat tasks next (genvar_fault what head.name.span)
Constructed k n taken flat tasks next other = Is [] flat tasks next

abbrev Blocked : ℕ → ℕ → Item → Option Identifier → Flat → List Task → Flat → Place → Type 0
Blocked k n item taken flat tasks next place = (name : List ℕ) × IsBlockName place.own n (label_of item) name × ((inner : List Task) × OpensBlock k place name (unopened place.names flat.signals) item flat inner next × (tasks ≡ taken_tasks taken ++ inner))

abbrev Roomed : ℕ → ℕ → Item → Option Identifier → Flat → List Task → Flat → (full : Bool) → Type 0
Roomed k n item taken flat tasks next true = Is (t.Refuses Scopes ∷ []) flat tasks next
Roomed k n item taken flat tasks next false = InPlace flat k (Blocked k n item taken flat tasks next)

abbrev Chosen : ℕ → ℕ → Item → Option Identifier → Flat → List Task → Flat → Item-F Item → Type 0
Chosen k n item taken flat tasks next (o.NullGenerate at) = Is (taken_tasks taken) flat tasks next
Chosen k n item taken flat tasks next (o.IfGenerate at c first second) = Is (t.Generates k n item taken ∷ []) flat tasks next
Chosen k n item taken flat tasks next other = Roomed k n item taken flat tasks next (is_full flat)

abbrev Turned : ℕ → Turn → Flat → List Task → Flat → Place → Outcome → Type 0
Turned k x flat tasks next place Ends = Is (taken_tasks x.taken) flat tasks next
Turned k x flat tasks next place (Refused error) = Is (t.Refuses error ∷ []) flat tasks next
Turned k x flat tasks next place Goes = TurnsOnce k place x (turn_start place flat.signals x) flat tasks next

-- the outcome of a turn in a scope
abbrev outcome_in : Place → Flat → Turn → Outcome
outcome_in place flat x = outcome (is_full flat) (condition_in (turn_start place flat.signals x).names x.head.condition) x.count

abbrev found_for : List Module → Placing → Flat → Place → Result ℕ ItemError
found_for modules x flat place = placed_in (is_full flat) x.module_name (module_at modules x.module_name.name) place.within

abbrev Answer : List Module → Task → Flat → List Task → Flat → Type 0
Answer modules (t.Step k x) flat tasks next = Is (step_tasks k x) (add_all flat (step_items k x)) tasks next
Answer modules (t.Instance k x) flat tasks next = InPlace flat k (λ (place : Place). Placed modules k place x flat tasks next (found_for modules x flat place))
Answer modules (t.Generates k n item taken) flat tasks next = Constructed k n taken flat tasks next (out-Item item)
Answer modules (t.Arm k n item taken) flat tasks next = Chosen k n item taken flat tasks next (out-Item item)
Answer modules (t.Turn k x) flat tasks next = InPlace flat k (λ (place : Place). Turned k x flat tasks next place (outcome_in place flat x))
Answer modules (t.Refuses error) flat tasks next = Is [] (add_all flat (f.Refuses error ∷ [])) tasks next

-- The rules answer so.

no_form : (k n : ℕ) (taken : Option Identifier) (flat : Flat) (form : Item-F Item) → is_construct_form form ≡ false → Constructed k n taken flat [] flat form
no_form k n taken flat (o.IfGenerate at c first second) h = absurd (true≢false h)
no_form k n taken flat (o.LoopGenerate head body) h = absurd (true≢false h)
no_form k n taken flat (o.Plain x) h = (refl, refl)
no_form k n taken flat (o.GenerateRegion at items) h = (refl, refl)
no_form k n taken flat (o.GenerateBlock at name items) h = (refl, refl)
no_form k n taken flat (o.NullGenerate at) h = (refl, refl)

block_form : (k n : ℕ) (item : Item) (taken : Option Identifier) (flat next : Flat) (tasks : List Task) (form : Item-F Item) → is_block_form form ≡ true → Roomed k n item taken flat tasks next (is_full flat) → Chosen k n item taken flat tasks next form
block_form k n item taken flat next tasks (o.NullGenerate at) h d = absurd (true≢false (sym h))
block_form k n item taken flat next tasks (o.IfGenerate at c first second) h d = absurd (true≢false (sym h))
block_form k n item taken flat next tasks (o.LoopGenerate head body) h d = d
block_form k n item taken flat next tasks (o.Plain x) h d = d
block_form k n item taken flat next tasks (o.GenerateRegion at items) h d = d
block_form k n item taken flat next tasks (o.GenerateBlock at name items) h d = d

-- what is found to be this is answered as this
as_found : {A : Type 0} (P : A → Type 0) (x y : A) → x ≡ y → P y → P x
as_found P x y e h = subst P (sym e) h

looped_as : (k n : ℕ) (head : GenerateLoop) (body : Item) (taken : Option Identifier) (flat : Flat) (tasks : List Task) (next : Flat) (what : Option What) → Sees flat.places head.name.name k what → Looped k n head body taken flat tasks next (genvar_fault what head.name.span)
    → Constructed k n taken flat tasks next (out-Item (i.LoopGenerate head body))
looped_as k n head body taken flat tasks next what sees h = as_found (Constructed k n taken flat tasks next) (out-Item (i.LoopGenerate head body)) (o.LoopGenerate head body) (out-loop head body) (what, sees, h)

started_as : (k n : ℕ) (head : GenerateLoop) (body : Item) (taken : Option Identifier) (flat : Flat) (tasks : List Task) (next : Flat) (what : Option What) (place : Place) (value : Result ℕ ItemError)
    → Sees flat.places head.name.name k what → genvar_fault what head.name.span ≡ None → slice_get flat.places k ≡ Some place → integer_in place.names head.start ≡ value → Started k n head body taken flat tasks next place value
    → Constructed k n taken flat tasks next (out-Item (i.LoopGenerate head body))
started_as k n head body taken flat tasks next what place value sees fault got start h =
    let begun : Started k n head body taken flat tasks next place (integer_in place.names head.start) = as_found (Started k n head body taken flat tasks next place) (integer_in place.names head.start) value start h in
    looped_as k n head body taken flat tasks next what sees (as_found (Looped k n head body taken flat tasks next) (genvar_fault what head.name.span) None fault (place, got, begun))

answers : (modules : List Module) (task : Task) (flat : Flat) (tasks : List Task) (next : Flat) → Replaces modules task flat tasks next → Answer modules task flat tasks next
answers modules task flat tasks next (step k x old) = (refl, refl)
answers modules task flat tasks next (refused error old) = (refl, refl)
answers modules task flat tasks next (not_placed k x old place error got found) =
    (place, got, as_found (Placed modules k place x old (t.Refuses error ∷ []) old) (found_for modules x old place) (Err error) found (refl, refl))
answers modules task flat tasks next (placed k x old new place n xs got found d) =
    (place, got, as_found (Placed modules k place x old xs new) (found_for modules x old place) (Ok n) found d)
answers modules task flat tasks next (condition k n at c first second taken old place got) =
    as_found (Constructed k n taken old (chosen_tasks k n (condition_in place.names c) first second taken) old) (out-Item (i.IfGenerate at c first second)) (o.IfGenerate at c first second) (out-if at c first second) (place, got, (refl, refl))
answers modules task flat tasks next (arm_null k n at taken old) = as_found (Chosen k n (i.NullGenerate at) taken old (taken_tasks taken) old) (out-Item (i.NullGenerate at)) (o.NullGenerate at) (out-null at) (refl, refl)
answers modules task flat tasks next (arm_condition k n at c first second taken old) =
    let item = i.IfGenerate at c first second in
    as_found (Chosen k n item taken old (t.Generates k n item taken ∷ []) old) (out-Item item) (o.IfGenerate at c first second) (out-if at c first second) (refl, refl)
answers modules task flat tasks next (arm_full k n item taken old form full) = block_form k n item taken old old (t.Refuses Scopes ∷ []) (out-Item item) form (as_found (Roomed k n item taken old (t.Refuses Scopes ∷ []) old) (is_full old) true full (refl, refl))
answers modules task flat tasks next (arm_block k n item taken old new place name xs form room got named d) =
    let all = taken_tasks taken ++ xs in
    block_form k n item taken old new all (out-Item item) form (as_found (Roomed k n item taken old all new) (is_full old) false room (place, got, (name, named, (xs, d, refl))))
answers modules task flat tasks next (bad_genvar k n head body taken old what error sees fault) =
    looped_as k n head body taken old (t.Refuses error ∷ []) old what sees (as_found (Looped k n head body taken old (t.Refuses error ∷ []) old) (genvar_fault what head.name.span) (Some error) fault (refl, refl))
answers modules task flat tasks next (bad_start k n head body taken old what place error sees fault got start) = started_as k n head body taken old (t.Refuses error ∷ []) old what place (Err error) sees fault got start (refl, refl)
answers modules task flat tasks next (loop k n head body taken old what place value name sees fault got start named) =
    started_as k n head body taken old (t.Turn k (first_turn name head body value taken) ∷ []) old what place (Ok value) sees fault got start (name, named, (refl, refl))
answers modules task flat tasks next (turn_ended k x old place got ends) = (place, got, as_found (Turned k x old (taken_tasks x.taken) old place) (outcome_in place old x) Ends ends (refl, refl))
answers modules task flat tasks next (bad_turn k x old place error got bad) = (place, got, as_found (Turned k x old (t.Refuses error ∷ []) old place) (outcome_in place old x) (Refused error) bad (refl, refl))
answers modules task flat tasks next (turn k x old new place xs got goes d) = (place, got, as_found (Turned k x old xs new place) (outcome_in place old x) Goes goes d)
answers modules task flat tasks next (no_construct k n item taken old form) = no_form k n taken old (out-Item item) form

-- Answers are one.

is_once : (ts : List Task) (last : Flat) (tasks others : List Task) (next after : Flat) → Is ts last tasks next → Is ts last others after → AreSame tasks others next after
is_once ts last tasks others next after a b = (a.0 ∙ sym b.0, a.1 ∙ sym b.1)

-- the scope of a number is one
in_place : (flat : Flat) (k : ℕ) (P : Place → Type 0) (place : Place) → slice_get flat.places k ≡ Some place → InPlace flat k P → P place
in_place flat k P place got (other, there, h) = subst P (one_there flat.places k other place there got) h

placed_once : (modules : List Module) (k : ℕ) (place : Place) (x : Placing) (flat : Flat) (tasks others : List Task) (next after : Flat) (found : Result ℕ ItemError)
    → Placed modules k place x flat tasks next found → Placed modules k place x flat others after found → AreSame tasks others next after
placed_once modules k place x flat tasks others next after (Err error) a b = is_once (t.Refuses error ∷ []) flat tasks others next after a b
placed_once modules k place x flat tasks others next after (Ok n) a b = places_once modules n k place x flat tasks others next after a b

started_once : (k n : ℕ) (head : GenerateLoop) (body : Item) (taken : Option Identifier) (flat : Flat) (tasks others : List Task) (next after : Flat) (place : Place) (value : Result ℕ ItemError)
    → Started k n head body taken flat tasks next place value → Started k n head body taken flat others after place value → AreSame tasks others next after
started_once k n head body taken flat tasks others next after place (Err error) a b = is_once (t.Refuses error ∷ []) flat tasks others next after a b
started_once k n head body taken flat tasks others next after place (Ok value) (name, named, a) (other, called, b) =
    let same : other ≡ name = block_name_once place.own n (label_of body) other name called named in
    is_once (t.Turn k (first_turn name head body value taken) ∷ []) flat tasks others next after a (subst (λ (x : List ℕ). Is (t.Turn k (first_turn x head body value taken) ∷ []) flat others after) same b)

looped_once : (k n : ℕ) (head : GenerateLoop) (body : Item) (taken : Option Identifier) (flat : Flat) (tasks others : List Task) (next after : Flat) (fault : Option ItemError)
    → Looped k n head body taken flat tasks next fault → Looped k n head body taken flat others after fault → AreSame tasks others next after
looped_once k n head body taken flat tasks others next after (Some error) a b = is_once (t.Refuses error ∷ []) flat tasks others next after a b
looped_once k n head body taken flat tasks others next after None (place, got, a) b =
    let there : Started k n head body taken flat others after place (integer_in place.names head.start) = in_place flat k (λ (p : Place). Started k n head body taken flat others after p (integer_in p.names head.start)) place got b in
    started_once k n head body taken flat tasks others next after place (integer_in place.names head.start) a there

constructed_once : (k n : ℕ) (taken : Option Identifier) (flat : Flat) (tasks others : List Task) (next after : Flat) (form : Item-F Item)
    → Constructed k n taken flat tasks next form → Constructed k n taken flat others after form → AreSame tasks others next after
constructed_once k n taken flat tasks others next after (o.IfGenerate at c first second) (place, got, a) b =
    let there = in_place flat k (λ (p : Place). Is (chosen_tasks k n (condition_in p.names c) first second taken) flat others after) place got b in
    is_once (chosen_tasks k n (condition_in place.names c) first second taken) flat tasks others next after a there
constructed_once k n taken flat tasks others next after (o.LoopGenerate head body) (what, sees, a) (other, seen, b) =
    let same : other ≡ what = sees_once flat.places head.name.name k other what seen sees in
    looped_once k n head body taken flat tasks others next after (genvar_fault what head.name.span) a (subst (λ (w : Option What). Looped k n head body taken flat others after (genvar_fault w head.name.span)) same b)
constructed_once k n taken flat tasks others next after (o.Plain x) a b = is_once [] flat tasks others next after a b
constructed_once k n taken flat tasks others next after (o.GenerateRegion at items) a b = is_once [] flat tasks others next after a b
constructed_once k n taken flat tasks others next after (o.GenerateBlock at name items) a b = is_once [] flat tasks others next after a b
constructed_once k n taken flat tasks others next after (o.NullGenerate at) a b = is_once [] flat tasks others next after a b

blocked_once : (k n : ℕ) (item : Item) (taken : Option Identifier) (flat : Flat) (tasks others : List Task) (next after : Flat)
    → InPlace flat k (Blocked k n item taken flat tasks next) → InPlace flat k (Blocked k n item taken flat others after) → AreSame tasks others next after
blocked_once k n item taken flat tasks others next after (place, got, (name, named, (inner, d, all))) b =
    let there = in_place flat k (Blocked k n item taken flat others after) place got b in
    let same : there.0 ≡ name = block_name_once place.own n (label_of item) there.0 name there.1 named in
    let start = unopened place.names flat.signals in
    let block = block_once k place name start item flat inner there.2.0 next after d (subst (λ (x : List ℕ). OpensBlock k place x start item flat there.2.0 after) same there.2.1) in
    (all ∙ ap (λ (ts : List Task). taken_tasks taken ++ ts) block.0 ∙ sym there.2.2, block.1)

roomed_once : (k n : ℕ) (item : Item) (taken : Option Identifier) (flat : Flat) (tasks others : List Task) (next after : Flat) (full : Bool)
    → Roomed k n item taken flat tasks next full → Roomed k n item taken flat others after full → AreSame tasks others next after
roomed_once k n item taken flat tasks others next after true a b = is_once (t.Refuses Scopes ∷ []) flat tasks others next after a b
roomed_once k n item taken flat tasks others next after false a b = blocked_once k n item taken flat tasks others next after a b

chosen_once : (k n : ℕ) (item : Item) (taken : Option Identifier) (flat : Flat) (tasks others : List Task) (next after : Flat) (form : Item-F Item)
    → Chosen k n item taken flat tasks next form → Chosen k n item taken flat others after form → AreSame tasks others next after
chosen_once k n item taken flat tasks others next after (o.NullGenerate at) a b = is_once (taken_tasks taken) flat tasks others next after a b
chosen_once k n item taken flat tasks others next after (o.IfGenerate at c first second) a b = is_once (t.Generates k n item taken ∷ []) flat tasks others next after a b
chosen_once k n item taken flat tasks others next after (o.LoopGenerate head body) a b = roomed_once k n item taken flat tasks others next after (is_full flat) a b
chosen_once k n item taken flat tasks others next after (o.Plain x) a b = roomed_once k n item taken flat tasks others next after (is_full flat) a b
chosen_once k n item taken flat tasks others next after (o.GenerateRegion at items) a b = roomed_once k n item taken flat tasks others next after (is_full flat) a b
chosen_once k n item taken flat tasks others next after (o.GenerateBlock at name items) a b = roomed_once k n item taken flat tasks others next after (is_full flat) a b

turned_once : (k : ℕ) (x : Turn) (flat : Flat) (tasks others : List Task) (next after : Flat) (place : Place) (found : Outcome)
    → Turned k x flat tasks next place found → Turned k x flat others after place found → AreSame tasks others next after
turned_once k x flat tasks others next after place Ends a b = is_once (taken_tasks x.taken) flat tasks others next after a b
turned_once k x flat tasks others next after place (Refused error) a b = is_once (t.Refuses error ∷ []) flat tasks others next after a b
turned_once k x flat tasks others next after place Goes a b = turns_once k place x (turn_start place flat.signals x) flat tasks others next after a b

answer_once : (modules : List Module) (task : Task) (flat : Flat) (tasks others : List Task) (next after : Flat) → Answer modules task flat tasks next → Answer modules task flat others after → AreSame tasks others next after
answer_once modules (t.Step k x) flat tasks others next after a b = is_once (step_tasks k x) (add_all flat (step_items k x)) tasks others next after a b
answer_once modules (t.Instance k x) flat tasks others next after (place, got, a) b =
    placed_once modules k place x flat tasks others next after (found_for modules x flat place) a
    (in_place flat k (λ (p : Place). Placed modules k p x flat others after (found_for modules x flat p)) place got b)
answer_once modules (t.Generates k n item taken) flat tasks others next after a b = constructed_once k n taken flat tasks others next after (out-Item item) a b
answer_once modules (t.Arm k n item taken) flat tasks others next after a b = chosen_once k n item taken flat tasks others next after (out-Item item) a b
answer_once modules (t.Turn k x) flat tasks others next after (place, got, a) b =
    turned_once k x flat tasks others next after place (outcome_in place flat x) a (in_place flat k (λ (p : Place). Turned k x flat others after p (outcome_in p flat x)) place got b)
answer_once modules (t.Refuses error) flat tasks others next after a b = is_once [] (add_all flat (f.Refuses error ∷ [])) tasks others next after a b

-- a part is replaced in one way
pub replaced_once : (modules : List Module) (task : Task) (flat : Flat) (tasks others : List Task) (next after : Flat) → Replaces modules task flat tasks next → Replaces modules task flat others after → AreSame tasks others next after
replaced_once modules task flat tasks others next after d e = answer_once modules task flat tasks others next after (answers modules task flat tasks next d) (answers modules task flat others after e)
