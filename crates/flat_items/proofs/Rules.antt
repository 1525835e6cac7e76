-- What each part is replaced by, from what the code has in hand.
use Rattle.flat_items.proofs.Common.{◌≡◌, ℕ, zero, suc, map, true≢false, Bool, true, false, List, [], ◌∷◌, ◌++◌, length, Option, None, Some, slice_get, Result, Ok, Err, sym, ap, ◌∙◌, subst}
use Rattle.flat_items.proofs.Common.{option_map, is_some, Identifier, GenerateLoop, Item, out-Item, Module, Names, Step, Signal, What, Head, Opened, unopened, Opens, ItemError, Scopes, Task, Turn}
use Rattle.flat_items.proofs.Common.{Flat, block_head, block_items, add_all, entered, is_full, tasks_of, step_items, step_tasks, module_at, placed_in, condition_in, integer_in, taken_tasks}
use Rattle.flat_items.proofs.Common.{chosen_tasks, label_of, IsBlockName, OpensBlock, Sees, genvar_fault, turn_start, inner_prefix, no_names, OpensInstance, Kept, Place, place_of, Replaces, Flattens}
use Rattle.flat_items.proofs.Common.{replaces, PlacesInstance, step, refused, not_placed, placed, condition, arm_null, arm_condition, arm_full, arm_block, bad_genvar, bad_start, loop, turn_ended}
use Rattle.flat_items.proofs.Common.{bad_turn, turn, no_construct, is_block_form, is_construct_form, first_turn, outcome, TurnsOnce, turn_name, next_turn}
use Rattle.mcy_base.specs.declared.span.Span.{Span}
use Rattle.vlog_syntax.specs.declared.expr.Expr.{Expr}
use Rattle.vlog_syntax.specs.declared.item.Item.TheVariants as i
use Rattle.flat_scopes.specs.declared.opening.Placing.{Placing}
use Rattle.flat_instances.specs.declared.item.FlatItem.{FlatItem}
use Rattle.flat_instances.specs.declared.item.FlatItem.TheVariants as f
use Rattle.flat_items.specs.declared.task.Task.TheVariants as t
use Rattle.flat_items.specs.declared.turn.Outcome.TheVariants.{Goes, Ends, Refused}

-- whatever the modules are
abbrev pub Fits : Task → Flat → List Task → Flat → Type 0
Fits task flat tasks next = (ms : List Module) → Replaces ms task flat tasks next

-- the place of a number is that of the scope that is kept there
pub place_got : (xs : List Kept) (k : ℕ) (p : Kept) → slice_get xs k ≡ Some p → slice_get (map place_of xs) k ≡ Some (place_of p)
place_got [] zero p h = absurd (true≢false (sym (ap is_some h)))
place_got [] (suc k) p h = absurd (true≢false (sym (ap is_some h)))
place_got (x ∷ xs) zero p h = ap (option_map place_of) h
place_got (x ∷ xs) (suc k) p h = place_got xs k p h

-- Generate constructs.

module _ (flat : Flat) (k n : ℕ) (tasks : List Task) (taken : Option Identifier) where
  pub condition_chooses : (item first a : Item) (second : Option Item) (at : Span) (c d : Expr) (place : Place) (value : Result ℕ ItemError)
      → item ≡ i.IfGenerate at c first second → slice_get flat.places k ≡ Some place → d ≡ c → a ≡ first → value ≡ condition_in place.names d → tasks ≡ chosen_tasks k n value a second taken
      → Fits (t.Generates k n item taken) flat tasks flat
  condition_chooses item first a second at c d place value is got dc af v e ms =
      let by_value = λ (x : Result ℕ ItemError). chosen_tasks k n x a second taken in
      let by_expr = λ (x : Expr). chosen_tasks k n (condition_in place.names x) a second taken in
      let by_first = λ (x : Item). chosen_tasks k n (condition_in place.names c) x second taken in
      let all : tasks ≡ chosen_tasks k n (condition_in place.names c) first second taken = e ∙ ap by_value v ∙ ap by_expr dc ∙ ap by_first af in
      subst (λ (x : Item). Replaces ms (t.Generates k n x taken) flat tasks flat) (sym is) (subst (λ (x : List Task). Replaces ms (t.Generates k n (i.IfGenerate at c first second) taken) flat x flat) (sym all) (condition k n at c first second taken flat place got))

  pub loop_replaced : (item body b : Item) (head : GenerateLoop) → item ≡ i.LoopGenerate head body → b ≡ body → Fits (t.Generates k n (i.LoopGenerate head b) taken) flat tasks flat → Fits (t.Generates k n item taken) flat tasks flat
  loop_replaced item body b head is e goes ms = subst (λ (x : Item). Replaces ms (t.Generates k n x taken) flat tasks flat) (sym is) (subst (λ (x : Item). Replaces ms (t.Generates k n (i.LoopGenerate head x) taken) flat tasks flat) e (goes ms))

  pub nothing_left : (item : Item) → is_construct_form (out-Item item) ≡ false → tasks ≡ [] → Fits (t.Generates k n item taken) flat tasks flat
  nothing_left item none e ms = subst (λ (x : List Task). Replaces ms (t.Generates k n item taken) flat x flat) (sym e) (no_construct k n item taken flat none)

  -- loops
  module _ (head : GenerateLoop) (body : Item) (what : Option What) (sees : Sees flat.places head.name.name k what) where
    pub genvar_refused : (error : ItemError) (fault : Option ItemError) → fault ≡ genvar_fault what head.name.span → fault ≡ Some error → tasks ≡ t.Refuses error ∷ [] → Fits (t.Generates k n (i.LoopGenerate head body) taken) flat tasks flat
    genvar_refused error fault f g e ms = subst (λ (x : List Task). Replaces ms (t.Generates k n (i.LoopGenerate head body) taken) flat x flat) (sym e) (bad_genvar k n head body taken flat what error sees (sym f ∙ g))

    pub start_refused : (fault : Option ItemError) (place : Place) (error : ItemError) (start : Expr) (value : Result ℕ ItemError) → fault ≡ genvar_fault what head.name.span → fault ≡ None → slice_get flat.places k ≡ Some place → start ≡ head.start → value ≡ integer_in place.names start → value ≡ Err error → tasks ≡ t.Refuses error ∷ []
        → Fits (t.Generates k n (i.LoopGenerate head body) taken) flat tasks flat
    start_refused fault place error start value f g got s v w e ms = subst (λ (x : List Task). Replaces ms (t.Generates k n (i.LoopGenerate head body) taken) flat x flat) (sym e) (bad_start k n head body taken flat what place error sees (sym f ∙ g) got (sym (ap (integer_in place.names) s) ∙ sym v ∙ w))

    pub loop_starts : (fault : Option ItemError) (place : Place) (number : ℕ) (name : List ℕ) (start : Expr) (value : Result ℕ ItemError) → fault ≡ genvar_fault what head.name.span → fault ≡ None → slice_get flat.places k ≡ Some place → start ≡ head.start → value ≡ integer_in place.names start → value ≡ Ok number → IsBlockName place.own n (label_of body) name → tasks ≡ t.Turn k (first_turn name head body number taken) ∷ []
        → Fits (t.Generates k n (i.LoopGenerate head body) taken) flat tasks flat
    loop_starts fault place number name start value f g got s v w named e ms = subst (λ (x : List Task). Replaces ms (t.Generates k n (i.LoopGenerate head body) taken) flat x flat) (sym e) (loop k n head body taken flat what place number name sees (sym f ∙ g) got (sym (ap (integer_in place.names) s) ∙ sym v ∙ w) named)

-- What a condition chose.
module _ (flat : Flat) (k n : ℕ) (tasks : List Task) (item : Item) (taken : Option Identifier) where
  pub null_left : (at : Span) → item ≡ i.NullGenerate at → tasks ≡ taken_tasks taken → Fits (t.Arm k n item taken) flat tasks flat
  null_left at is e ms = subst (λ (x : Item). Replaces ms (t.Arm k n x taken) flat tasks flat) (sym is) (subst (λ (x : List Task). Replaces ms (t.Arm k n (i.NullGenerate at) taken) flat x flat) (sym e) (arm_null k n at taken flat))

  pub condition_left : (at : Span) (c : Expr) (first : Item) (second : Option Item) (x : Item) → item ≡ i.IfGenerate at c first second → x ≡ item → tasks ≡ t.Generates k n x taken ∷ [] → Fits (t.Arm k n item taken) flat tasks flat
  condition_left at c first second x is xi e ms =
      let all : tasks ≡ t.Generates k n (i.IfGenerate at c first second) taken ∷ [] = e ∙ ap (λ (y : Item). t.Generates k n y taken ∷ []) (xi ∙ is) in
      subst (λ (y : Item). Replaces ms (t.Arm k n y taken) flat tasks flat) (sym is) (subst (λ (y : List Task). Replaces ms (t.Arm k n (i.IfGenerate at c first second) taken) flat y flat) (sym all) (arm_condition k n at c first second taken flat))

  pub block_refused : is_block_form (out-Item item) ≡ true → is_full flat ≡ true → tasks ≡ t.Refuses Scopes ∷ [] → Fits (t.Arm k n item taken) flat tasks flat
  block_refused form full e ms = subst (λ (x : List Task). Replaces ms (t.Arm k n item taken) flat x flat) (sym e) (arm_full k n item taken flat form full)

-- the same with the signals taken away meanwhile
abbrev pub emptied : Flat → Flat
emptied flat = record flat { signals = [] }

same_block : (flat : Flat) (k : ℕ) (place : Place) (name : List ℕ) (start : Opened) (item : Item) (tasks : List Task) (next : Flat) → OpensBlock k place name start item (emptied flat) tasks next → OpensBlock k place name start item flat tasks next
same_block flat k place name start item tasks next b = record { child = b.child; opens = b.opens; listed = b.listed; enters = b.enters }

pub block_opens : (flat mid next : Flat) (k n : ℕ) (item : Item) (taken : Option Identifier) (place : Place) (name : List ℕ) (ahead tasks all : List Task) (child : Opened) (names : Names) (signals : List Signal)
    → is_block_form (out-Item item) ≡ true → is_full flat ≡ false → signals ≡ flat.signals → mid ≡ emptied flat → slice_get mid.places k ≡ Some place → IsBlockName place.own n (label_of item) name
    → names ≡ place.names → child ≡ unopened names signals → ((p : Place) → slice_get mid.places k ≡ Some p → OpensBlock k p name child item mid tasks next) → ahead ≡ taken_tasks taken → all ≡ ahead ++ tasks
    → Fits (t.Arm k n item taken) flat all next
block_opens flat mid next k n item taken place name ahead tasks all child names signals form room s m got named ns c opens told both ms =
    let got_flat : slice_get flat.places k ≡ Some place = subst (λ (x : Flat). slice_get x.places k ≡ Some place) m got in
    let start : child ≡ unopened place.names flat.signals = c ∙ ap (λ (x : Names). unopened x signals) ns ∙ ap (λ (x : List Signal). unopened place.names x) s in
    let here : OpensBlock k place name child item (emptied flat) tasks next = subst (λ (x : Flat). OpensBlock k place name child item x tasks next) m (opens place got) in
    let from : OpensBlock k place name (unopened place.names flat.signals) item (emptied flat) tasks next = subst (λ (x : Opened). OpensBlock k place name x item (emptied flat) tasks next) start here in
    let whole : all ≡ taken_tasks taken ++ tasks = both ∙ ap (λ (x : List Task). x ++ tasks) told in
    subst (λ (x : List Task). Replaces ms (t.Arm k n item taken) flat x next) (sym whole) (arm_block k n item taken flat next place name tasks form room got_flat named (same_block flat k place name (unopened place.names flat.signals) item tasks next from))

-- Turns.

same_turn : (flat : Flat) (k : ℕ) (place : Place) (x : Turn) (start : Opened) (tasks : List Task) (next : Flat) → TurnsOnce k place x start (emptied flat) tasks next → TurnsOnce k place x start flat tasks next
same_turn flat k place x start tasks next b = record { what = b.what; sees = b.sees; inner = b.inner; opens = same_block flat k place _ start x.body b.inner next b.opens; all = b.all }

module _ (flat mid next : Flat) (k : ℕ) (x : Turn) (place : Place) (tasks : List Task) (child : Opened) (signals : List Signal) (c : Expr) (full : Bool) (value : Result ℕ ItemError) where
  -- what is known where the outcome is
  pub record Tested : Type 0 where
    pub full_is : full ≡ is_full flat
    pub signals_are : signals ≡ flat.signals
    pub taken : mid ≡ emptied flat
    pub got : slice_get mid.places k ≡ Some place
    pub starts : child ≡ turn_start place signals x
    pub condition_is : c ≡ x.head.condition
    pub value_is : value ≡ condition_in child.names c

  -- the place and the test as the definition has them
  there : Tested → slice_get flat.places k ≡ Some place
  there h = subst (λ (y : Flat). slice_get y.places k ≡ Some place) h.taken h.got

  start_is : Tested → child ≡ turn_start place flat.signals x
  start_is h = h.starts ∙ ap (λ (y : List Signal). turn_start place y x) h.signals_are

  test_is : Tested → value ≡ condition_in (turn_start place flat.signals x).names x.head.condition
  test_is h = h.value_is ∙ ap (λ (y : Opened). condition_in y.names c) (start_is h) ∙ ap (λ (y : Expr). condition_in (turn_start place flat.signals x).names y) h.condition_is

  outcome_is : Tested → outcome (is_full flat) (condition_in (turn_start place flat.signals x).names x.head.condition) x.count ≡ outcome full value x.count
  outcome_is h = sym (ap (λ (y : Result ℕ ItemError). outcome full y x.count) (test_is h) ∙ ap (λ (y : Bool). outcome y (condition_in (turn_start place flat.signals x).names x.head.condition) x.count) h.full_is)

  pub turn_goes : Tested → outcome full value x.count ≡ Goes → ((p : Place) → slice_get mid.places k ≡ Some p → TurnsOnce k p x child mid tasks next) → Fits (t.Turn k x) flat tasks next
  turn_goes h o once ms =
      let here : TurnsOnce k place x child (emptied flat) tasks next = subst (λ (y : Flat). TurnsOnce k place x child y tasks next) h.taken (once place h.got) in
      let from : TurnsOnce k place x (turn_start place flat.signals x) (emptied flat) tasks next = subst (λ (y : Opened). TurnsOnce k place x y (emptied flat) tasks next) (start_is h) here in
      turn k x flat next place tasks (there h) (outcome_is h ∙ o) (same_turn flat k place x (turn_start place flat.signals x) tasks next from)

  -- the signals are given back
  given_back : Tested → next ≡ record mid { signals = child.signals } → next ≡ flat
  given_back h back = back ∙ ap (λ (y : Flat). record y { signals = child.signals }) h.taken ∙ ap (λ (y : Opened). record flat { signals = y.signals }) (start_is h)

  pub turn_ends : Tested → outcome full value x.count ≡ Ends → next ≡ record mid { signals = child.signals } → tasks ≡ taken_tasks x.taken → Fits (t.Turn k x) flat tasks next
  turn_ends h o back e ms =
      subst (λ (y : Flat). Replaces ms (t.Turn k x) flat tasks y) (sym (given_back h back)) (subst (λ (y : List Task). Replaces ms (t.Turn k x) flat y flat) (sym e) (turn_ended k x flat place (there h) (outcome_is h ∙ o)))

  pub turn_refused : (error : ItemError) → Tested → outcome full value x.count ≡ Refused error → next ≡ record mid { signals = child.signals } → tasks ≡ t.Refuses error ∷ [] → Fits (t.Turn k x) flat tasks next
  turn_refused error h o back e ms =
      subst (λ (y : Flat). Replaces ms (t.Turn k x) flat tasks y) (sym (given_back h back)) (subst (λ (y : List Task). Replaces ms (t.Turn k x) flat y flat) (sym e) (bad_turn k x flat place error (there h) (outcome_is h ∙ o)))

-- Instances.

pick : Place → Option Place → Place
pick d None = d
pick d (Some x) = x

same_place : (o : Option Place) (p q : Place) → o ≡ Some p → o ≡ Some q → p ≡ q
unfolding pick
same_place o p q h g = let e : Some p ≡ Some q = sym h ∙ g in ap (pick p) e

pub instance_places : (ms : List Module) (n k : ℕ) (x : Placing) (flat mid mid2 next : Flat) (tasks : List Task) (place : Place) (m : Module) (child : Opened) (items : List FlatItem) (signals : List Signal) (prefix : List ℕ) (within : List ℕ) (inside : ℕ)
    → inside ≡ length flat.places → signals ≡ flat.signals → mid ≡ emptied flat → slice_get mid.places k ≡ Some place → slice_get ms n ≡ Some m → within ≡ n ∷ place.within
    → OpensInstance place k inside m x signals child items → prefix ≡ inner_prefix place.prefix x.instance.name.name → mid2 ≡ add_all mid items
    → tasks ≡ tasks_of (length mid2.places) child.steps → next ≡ entered mid2 prefix None within child
    → (p : Place) → slice_get flat.places k ≡ Some p → PlacesInstance ms n k p x flat tasks next
instance_places ms n k x flat mid mid2 next tasks place m child items signals prefix within inside at s f got numbered w opens pre l ts nx p found =
    let got_flat : slice_get flat.places k ≡ Some place = subst (λ (y : Flat). slice_get y.places k ≡ Some place) f got in
    let second : mid2 ≡ add_all (emptied flat) items = l ∙ ap (λ (y : Flat). add_all y items) f in
    let opened : OpensInstance place k (length flat.places) m x flat.signals child items = subst (λ (y : ℕ). OpensInstance place k y m x flat.signals child items) at (subst (λ (y : List Signal). OpensInstance place k inside m x y child items) s opens) in
    let listed : tasks ≡ tasks_of (length flat.places) child.steps = ts ∙ ap (λ (y : Flat). tasks_of (length y.places) child.steps) second in
    let own = inner_prefix place.prefix x.instance.name.name in
    let enters : next ≡ entered (add_all flat items) own None (n ∷ place.within) child = nx ∙ ap (λ (y : Flat). entered y prefix None within child) second ∙ ap (λ (y : List ℕ). entered (add_all flat items) y None within child) pre ∙ ap (λ (y : List ℕ). entered (add_all flat items) own None y child) w in
    let here : PlacesInstance ms n k place x flat tasks next = record { m = m; numbered = numbered; child = child; items = items; opens = opened; listed = listed; enters = enters } in
    subst (λ (y : Place). PlacesInstance ms n k y x flat tasks next) (same_place (slice_get flat.places k) place p got_flat found) here

module _ (ms : List Module) (flat : Flat) (k : ℕ) (x : Placing) (tasks : List Task) (place : Place) (name : Identifier) (found : Result ℕ ItemError) (got : slice_get flat.places k ≡ Some place) (named : name ≡ x.module_name) (is : found ≡ placed_in (is_full flat) name (module_at ms name.name) place.within) where
  found_is : placed_in (is_full flat) x.module_name (module_at ms x.module_name.name) place.within ≡ found
  found_is = sym (is ∙ ap (λ (y : Identifier). placed_in (is_full flat) y (module_at ms y.name) place.within) named)

  pub instance_refused : (error : ItemError) → found ≡ Err error → tasks ≡ t.Refuses error ∷ [] → Replaces ms (t.Instance k x) flat tasks flat
  instance_refused error f e = subst (λ (y : List Task). Replaces ms (t.Instance k x) flat y flat) (sym e) (not_placed k x flat place error got (found_is ∙ f))

  pub instance_placed : (n : ℕ) (next : Flat) → found ≡ Ok n → ((p : Place) → slice_get flat.places k ≡ Some p → PlacesInstance ms n k p x flat tasks next) → Replaces ms (t.Instance k x) flat tasks next
  instance_placed n next f places = placed k x flat next place n tasks got (found_is ∙ f) (places place got)

-- All parts.
module _ (ms : List Module) (flat next : Flat) (k : ℕ) (tasks : List Task) where
  pub step_replaced : (x : Step) → next ≡ add_all flat (step_items k x) → tasks ≡ step_tasks k x → Replaces ms (t.Step k x) flat tasks next
  step_replaced x n e = subst (λ (y : Flat). Replaces ms (t.Step k x) flat tasks y) (sym n) (subst (λ (y : List Task). Replaces ms (t.Step k x) flat y (add_all flat (step_items k x))) (sym e) (step k x flat))

  pub refusal_listed : (error : ItemError) → next ≡ add_all flat (f.Refuses error ∷ []) → tasks ≡ [] → Replaces ms (t.Refuses error) flat tasks next
  refusal_listed error n e = subst (λ (y : Flat). Replaces ms (t.Refuses error) flat tasks y) (sym n) (subst (λ (y : List Task). Replaces ms (t.Refuses error) flat y (add_all flat (f.Refuses error ∷ []))) (sym e) (refused error flat))

pub one_replaced : (ms : List Module) (task : Task) (tasks old left now : List Task) (flat next last : Flat) → Replaces ms task flat tasks next → left ≡ task ∷ old → now ≡ tasks ++ old → Flattens ms now next last → Flattens ms left flat last
one_replaced ms task tasks old left now flat next last r l n d = subst (λ (y : List Task). Flattens ms y flat last) (sym l) (replaces task tasks old flat next last r (subst (λ (y : List Task). Flattens ms y next last) n d))

-- A block that was opened is the next place.
pub block_entered : (flat next : Flat) (k : ℕ) (place : Place) (name given : List ℕ) (start child : Opened) (block : Item) (tasks : List Task) (prefix within : List ℕ) (head : Head) (outside : Names) (items : List Item)
    → slice_get flat.places k ≡ Some place → prefix ≡ inner_prefix given name → given ≡ place.prefix → within ≡ place.within → head ≡ block_head prefix → outside ≡ no_names → items ≡ block_items block
    → Opens head outside start items child → tasks ≡ tasks_of (length flat.places) child.steps → next ≡ entered flat head.prefix (Some k) within child
    → (p : Place) → slice_get flat.places k ≡ Some p → OpensBlock k p name start block flat tasks next
block_entered flat next k place name given start child block tasks prefix within head outside items got pre giv w h o is opens ts nx p found =
    let full : prefix ≡ inner_prefix place.prefix name = pre ∙ ap (λ (x : List ℕ). inner_prefix x name) giv in
    let heads : head ≡ block_head (inner_prefix place.prefix name) = h ∙ ap block_head full in
    let opened : Opens (block_head (inner_prefix place.prefix name)) no_names start (block_items block) child = subst (λ (x : Head). Opens x no_names start (block_items block) child) heads (subst (λ (x : Names). Opens head x start (block_items block) child) o (subst (λ (x : List Item). Opens head outside start x child) is opens)) in
    let enters : next ≡ entered flat (inner_prefix place.prefix name) (Some k) place.within child = nx ∙ ap (λ (x : Head). entered flat x.prefix (Some k) within child) heads ∙ ap (λ (x : List ℕ). entered flat (inner_prefix place.prefix name) (Some k) x child) w in
    let here : OpensBlock k place name start block flat tasks next = record { child = child; opens = opened; listed = ts; enters = enters } in
    subst (λ (x : Place). OpensBlock k x name start block flat tasks next) (same_place (slice_get flat.places k) place p got found) here

-- A turn whose block was opened, and what comes behind it.
pub turn_done : (flat next : Flat) (k : ℕ) (place : Place) (x : Turn) (start : Opened) (block : Item) (ahead inner rest tasks : List Task) (name head_name : List ℕ) (what : Option What) (advance : Expr) (value : Result ℕ ItemError) (last : Task)
    → Sees flat.places head_name k what → head_name ≡ x.head.step_name.name → advance ≡ x.head.step → value ≡ integer_in start.names advance → name ≡ turn_name x.name x.value → block ≡ x.body
    → OpensBlock k place name start block flat inner next → last ≡ next_turn k x what value → ahead ≡ taken_tasks x.taken → rest ≡ inner ++ last ∷ [] → tasks ≡ ahead ++ rest
    → TurnsOnce k place x start flat tasks next
turn_done flat next k place x start block ahead inner rest tasks name head_name what advance value last sees hn st v n b opens l told more all =
    let valued : value ≡ integer_in start.names x.head.step = v ∙ ap (integer_in start.names) st in
    record {
      what = what;
      sees = subst (λ (y : List ℕ). Sees flat.places y k what) hn sees;
      inner = inner;
      opens = subst (λ (y : List ℕ). OpensBlock k place y start x.body flat inner next) n (subst (λ (y : Item). OpensBlock k place name start y flat inner next) b opens);
      all = all ∙ ap (λ (y : List Task). y ++ rest) told ∙ ap (λ (y : List Task). taken_tasks x.taken ++ y) (more ∙ ap (λ (y : Task). inner ++ y ∷ []) (l ∙ ap (next_turn k x what) valued));
    }
