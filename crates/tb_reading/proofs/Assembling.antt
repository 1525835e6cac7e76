-- The parts of a bench, as they are assembled, can run and are those of what was read.
use Rattle.tb_reading.proofs.Common.{◌≡◌, ℕ, ◌<◌, true, List, [], ◌++◌, map, length, slice_get, Option, None, Some, sym, ap, ◌∙◌, subst, slice_index, All, length-map, All-append, Assignment, Stmt}
use Rattle.tb_reading.proofs.Common.{Decl, Names, names_of, Node, ArePlans, AreNetPlans, NetNode, Nets, Adds, Passes, adds_both, bench_tests, known, CanPerform, HasSignal, HasSignals, Generator}
use Rattle.tb_reading.proofs.Common.{nodes_of, CanSettle, AreFaultless, Clock, Parts, Waiting, names, widths, IsRunnable, Reading, Begun, bodies, events, processes, AddsWaiting, context_in}
use Rattle.tb_reading.proofs.Common.{first_generator, IsClockOf, HasParts}
use Rattle.vlog_syntax.specs.declared.item.ProcessKind.TheVariants as k
use Rattle.vlog_meaning.specs.Senses.{IsWhole}
use Rattle.tb_machine.specs.Known.{AllKnown}
use Rattle.tb_assigns.specs.Checks.{can_assign}
use Rattle.tb_assigns.specs.Updates.{CanAssign}
use Rattle.tb_plans.specs.declared.plan.Plan.{Plan}
use Rattle.tb_plans.specs.declared.transfer.Transfer.{Transfer}
use Rattle.tb_plans.proofs.Knowing.{without_tasks}
use Rattle.tb_nets.specs.declared.node.NetNode.TheVariants.{Assign}
use Rattle.tb_reading.proofs.Runnable.{runnable}
use Rattle.tb_reading.proofs.Passing.{processes_pass}
use Rattle.tb_reading.proofs.Holding.{processes_hold}

-- code of the processes that were read
pub record Coded (r : Reading) (code : List Node) (always initial : List Waiting) : Type 0 where
  pub mid : List Node
  pub first : AddsWaiting [] mid [] always (processes k.Always r.items.items)
  pub second : AddsWaiting mid code [] initial (processes k.Initial r.items.items)
  pub faultless : AreFaultless (context_in r) r.items.items (length r.items.items)

-- parts with what was read
pub record Assembled (r : Reading) (p : Parts) : Type 0 where
  pub coded : Coded r p.code p.always p.initial
  pub plans : ArePlans (names p) p.code p.plans
  pub net_plans : AreNetPlans (names p) p.nets.nodes p.net_plans
  pub scope : p.scope ≡ r.signals.scope
  pub widths_are : widths p ≡ r.signals.widths
  pub values : map (λ w. w.bits) p.starts ≡ r.signals.values
  pub inputs : p.inputs ≡ r.inputs.items
  pub outputs : p.outputs ≡ r.outputs.items
  pub nodes : p.nets.nodes ≡ nodes_of r.items.items
  pub clock : IsClockOf (names_of r.signals.scope) (first_generator r.items.items) p.clock
  pub signals : HasSignals (names_of r.signals.scope) r.signals.widths
  pub settle : CanSettle (names_of r.signals.scope) r.signals.widths r.inputs.items r.outputs.items p.nets

numbers_of : (a b : List Node) (ws : List Waiting) (ps : List Begun) → AddsWaiting a b [] ws ps → Adds a b (map (λ w. w.body) ws) (bodies ps)
numbers_of a b ws ps h = let P : List Waiting → Type 0 = λ x. Adds a b (map (λ w. w.body) x) (bodies ps) in subst P (sym h.list) h.adds

events_of : (a b : List Node) (ws : List Waiting) (ps : List Begun) → AddsWaiting a b [] ws ps → map (λ w. w.event) ws ≡ events ps
events_of a b ws ps h = ap (λ (x : List Waiting). map (λ w. w.event) x) h.list ∙ h.events

module _ (r : Reading) (code : List Node) (always initial : List Waiting) (h : Coded r code always initial) where
  whole_code : Adds [] code (map (λ w. w.body) always ++ map (λ w. w.body) initial) (bodies (processes k.Always r.items.items) ++ bodies (processes k.Initial r.items.items))
  whole_code = adds_both [] h.mid code (map (λ w. w.body) always) (map (λ w. w.body) initial) (bodies (processes k.Always r.items.items)) (bodies (processes k.Initial r.items.items)) (numbers_of [] h.mid always (processes k.Always r.items.items) h.first) (numbers_of h.mid code initial (processes k.Initial r.items.items) h.second)

  all_pass : All (Passes (bench_tests (names_of r.signals.scope))) (bodies (processes k.Always r.items.items) ++ bodies (processes k.Initial r.items.items))
  all_pass = All-append (Passes (bench_tests (names_of r.signals.scope))) (bodies (processes k.Always r.items.items)) (bodies (processes k.Initial r.items.items)) (processes_pass (context_in r) r.items.items k.Always h.faultless) (processes_pass (context_in r) r.items.items k.Initial h.faultless)

  -- what the code evaluates and assigns can be planned
  pub known_so : (scope : List (List ℕ × Decl)) (nodes : List Node) → scope ≡ r.signals.scope → nodes ≡ code → AllKnown (IsWhole (names_of scope)) (CanAssign (names_of scope)) (λ name arguments. Unit {0}) nodes
  known_so scope nodes same listed =
      let n : Names = names_of r.signals.scope in
      let all : AllKnown (IsWhole n) (CanAssign n) (CanPerform n) code = known n code (map (λ w. w.body) always ++ map (λ w. w.body) initial) (bodies (processes k.Always r.items.items) ++ bodies (processes k.Initial r.items.items)) whole_code all_pass in
      let here : AllKnown (IsWhole n) (CanAssign n) (λ name arguments. Unit {0}) code = without_tasks n (CanPerform n) code all in
      let P : List (List ℕ × Decl) → Type 0 = λ x. AllKnown (IsWhole (names_of x)) (CanAssign (names_of x)) (λ name arguments. Unit {0}) nodes in
      let Q : List Node → Type 0 = λ x. AllKnown (IsWhole n) (CanAssign n) (λ name arguments. Unit {0}) x in
      subst P (sym same) (subst Q (sym listed) here)

-- what assigns among nets assign can be planned
pub sides_so : (s0 s : List (List ℕ × Decl)) (widths inputs outputs : List ℕ) (nets : Nets) (nodes : List NetNode) → s0 ≡ s → nodes ≡ nets.nodes → CanSettle (names_of s) widths inputs outputs nets → (j : ℕ) (a : Assignment) → slice_get nodes j ≡ Some (Assign a) → can_assign (names_of s0) a ≡ true
sides_so s0 s widths inputs outputs nets nodes same listed settle j a at =
    let P : List (List ℕ × Decl) → Type 0 = λ x. can_assign (names_of x) a ≡ true in
    subst P (sym same) (settle.sides j a (ap (λ (l : List NetNode). slice_get l j) (sym listed) ∙ at))

-- plans, as they were taken in
pub plans_so : (n : Names) (a b : List Node) (xs ps : List Plan) → a ≡ b → ps ≡ xs → ArePlans n a xs → ArePlans n b ps
plans_so n a b xs ps listed same h =
    let P : List Node → Type 0 = λ x. ArePlans n x xs in
    let Q : List Plan → Type 0 = λ x. ArePlans n b x in
    subst Q (sym same) (subst P listed h)

pub net_plans_so : (n : Names) (a b : List NetNode) (xs ps : List (Option Transfer)) → a ≡ b → ps ≡ xs → AreNetPlans n a xs → AreNetPlans n b ps
net_plans_so n a b xs ps listed same h =
    let P : List NetNode → Type 0 = λ x. AreNetPlans n x xs in
    let Q : List (Option Transfer) → Type 0 = λ x. AreNetPlans n b x in
    subst Q (sym same) (subst P listed h)

clock_inside : (ns : Names) (ws : List ℕ) (o : Option Generator) (c : Clock) → IsClockOf ns o c → HasSignals ns ws → (c.signal < length ws) × (slice_index ws c.signal ≡ c.high.width)
clock_inside ns ws None c h has = absurd h
clock_inside ns ws (Some g) c (low, is_signed, named, bits) has = let P : Option Decl → Type 0 = λ x. HasSignal ws x in subst P named (has g.clock.name)

pub can_run : (r : Reading) (p : Parts) → Assembled r p → IsRunnable p
can_run r p h =
    let parts : List Stmt = bodies (processes k.Always r.items.items) ++ bodies (processes k.Initial r.items.items) in
    let ns : Names = names_of r.signals.scope in
    let pass : All (Passes (bench_tests ns)) parts = all_pass r p.code p.always p.initial h.coded in
    let same : ns ≡ names p = ap names_of (sym h.scope) in
    let wide : r.signals.widths ≡ widths p = sym h.widths_are in
    let passing : All (Passes (bench_tests (names p))) parts = let P : Names → Type 0 = λ x. All (Passes (bench_tests x)) parts in subst P same pass in
    let signals : HasSignals (names p) (widths p) = let P : Names → Type 0 = λ x. HasSignals x r.signals.widths in let Q : List ℕ → Type 0 = λ x. HasSignals (names p) x in subst Q wide (subst P same h.signals) in
    let clock = clock_inside ns r.signals.widths (first_generator r.items.items) p.clock h.clock h.signals in
    let long : length r.signals.widths ≡ length p.starts = ap (length {A = ℕ}) wide ∙ length-map p.starts (λ w. w.width) in
    let below : p.clock.signal < length p.starts = let P : ℕ → Type 0 = λ n. p.clock.signal < n in subst P long clock.0 in
    let high : p.clock.high.width ≡ slice_index (widths p) p.clock.signal = sym clock.1 ∙ ap (λ (x : List ℕ). slice_index x p.clock.signal) wide in
    let nets : CanSettle (names p) (widths p) p.inputs p.outputs p.nets =
    let A : Names → Type 0 = λ x. CanSettle x r.signals.widths r.inputs.items r.outputs.items p.nets in
    let B : List ℕ → Type 0 = λ x. CanSettle (names p) x r.inputs.items r.outputs.items p.nets in
    let C : List ℕ → Type 0 = λ x. CanSettle (names p) (widths p) x r.outputs.items p.nets in
    let D : List ℕ → Type 0 = λ x. CanSettle (names p) (widths p) p.inputs x p.nets in
    subst D (sym h.outputs) (subst C (sym h.inputs) (subst B wide (subst A same h.settle))) in
    runnable p parts (whole_code r p.code p.always p.initial h.coded) passing h.plans h.net_plans signals below high nets

pub has_parts : (r : Reading) (p : Parts) → Assembled r p → HasParts r p
has_parts r p h =
    let held = processes_hold p.code p.always p.initial (processes k.Always r.items.items) (processes k.Initial r.items.items) (whole_code r p.code p.always p.initial h.coded) (events_of [] h.coded.mid p.always (processes k.Always r.items.items) h.coded.first) (events_of h.coded.mid p.code p.initial (processes k.Initial r.items.items) h.coded.second) in
    let P : Names → Type 0 = λ x. IsClockOf x (first_generator r.items.items) p.clock in
    record {
      scope = h.scope;
      widths_are = h.widths_are;
      values = h.values;
      trees = held.0;
      code = held.1;
      always = held.2;
      initial = held.3;
      clock = subst P (ap names_of (sym h.scope)) h.clock;
      inputs = h.inputs;
      outputs = h.outputs;
      nets = h.nodes;
    }

-- lists of processes, as they were taken in
pub listed : (a0 a b : List Node) (xs ws : List Waiting) (ps : List Begun) → a0 ≡ a → ws ≡ xs → AddsWaiting a0 b [] xs ps → AddsWaiting a b [] ws ps
listed a0 a b xs ws ps begun same h =
    let P : List Node → Type 0 = λ x. AddsWaiting x b [] xs ps in
    let Q : List Waiting → Type 0 = λ x. AddsWaiting a b [] x ps in
    subst Q (sym same) (subst P begun h)
