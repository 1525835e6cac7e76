-- What a phase of a run leads to, over plain variables.
use Rattle.tb_process.proofs.Common.{◌≡◌, ℕ, zero, suc, ◌+◌, ◌<◌, List, [], ◌++◌, map, refl, ap, sym, ◌∙◌, subst, arith, Simulated, Event, Ended, Process, World, all_applied, Suspended, Ran, Pauses}
use Rattle.tb_process.proofs.Common.{Finished, TooLong, State, Settles, IsEnd, IsPhaseOf, Going, Finish, Limit, active, active_part, after_edge, event_of_phase, Tree, AreRan, all_suspended, meaning}
use Rattle.tb_process.proofs.Common.{Parts, names, widths, begun, with_clock, setting_of, Running, IsOf, Stands, Follows, next_of, running}
use Rattle.netlist_core.specs.declared.raw.RawNetlist.{RawNetlist}
use Rattle.tb_machine.specs.declared.machine.Ended.TheVariants as e
use Rattle.tb_machine.specs.declared.phase_end.PhaseEnd.{PhaseEnd}
use Rattle.tb_machine.specs.declared.phase_end.PhaseEnd.TheVariants as p
use Rattle.tb_process.proofs.Answering.{pauses_is, finished_is, too_long_is}

-- the world in which the processes of a phase begin
abbrev start_world : Parts → State → World
start_world b s = record { widths = widths b; store = with_clock b.clock (event_of_phase s.phase) s.store; words = s.words; updates = []; text = [] }

begins : (b : Parts) (tree : Tree) (s : State) (phase : ℕ) (sim : Simulated) (w u : World) (initial : List Process) (event : Event) → IsOf b (running phase sim w initial) → Stands b tree (running phase sim w initial) s → event ≡ event_of_phase phase → u ≡ record w { store = with_clock b.clock event w.store; text = [] } → u ≡ start_world b s
begins b tree s phase sim w u initial event of stands is begun =
    let x : World = record { widths = w.widths; store = with_clock b.clock event w.store; words = w.words; updates = w.updates; text = [] } in
    let there : u ≡ x = begun in
    let now : event ≡ event_of_phase s.phase = is ∙ ap event_of_phase stands.phase in
    let same : x ≡ start_world b s = λ i. record { widths = of.widths i; store = with_clock b.clock (now i) (stands.store i); words = stands.words i; updates = of.updates i; text = [] } in
    there ∙ same

-- what the processes come to is what the definition of a phase says
ran_part : (b : Parts) (tree : Tree) (netlist : RawNetlist) (s : State) (phase : ℕ) (sim : Simulated) (w u : World) (initial : List Process) (event : Event) → Stands b tree (running phase sim w initial) s → event ≡ event_of_phase phase → u ≡ start_world b s → active (meaning (names b) phase) event (map (begun tree) b.always) (all_suspended b.code tree initial) u ≡ active_part (setting_of b tree netlist) s
ran_part b tree netlist s phase sim w u initial event stands is there =
    let now : event ≡ event_of_phase s.phase = is ∙ ap event_of_phase stands.phase in
    λ i. active (meaning (names b) (stands.phase i)) (now i) (map (begun tree) b.always) (stands.initial i) (there i)

-- registers take their D from the first phase on
edge_same : (phase : ℕ) (registers next taken stood : List ℕ) → registers ≡ taken → (0 < phase → next ≡ stood) → after_edge (event_of_phase phase) registers next ≡ after_edge (event_of_phase phase) taken stood
edge_same zero registers next taken stood same later = same
edge_same (suc n) registers next taken stood same later =
    let then : next ≡ stood = later (omega arith) in
    λ i. after_edge (event_of_phase (suc n)) (same i) (then i)

-- the three ends of a phase
pub goes_on : (b : Parts) (tree : Tree) (netlist : RawNetlist) (s : State) (phase : ℕ) (old new : Simulated) (w u r x : World) (initial waiting : List Process) (event : Event) (answer : Ended) → IsOf b (running phase old w initial) → Stands b tree (running phase old w initial) s → event ≡ event_of_phase phase → u ≡ record w { store = with_clock b.clock event w.store; text = [] } → answer ≡ e.Pauses → (k : ℕ) × AreRan b.code tree answer k waiting r (active (meaning (names b) phase) event (map (begun tree) b.always) (all_suspended b.code tree initial) u) → Settles (setting_of b tree netlist) phase new.registers (all_applied r.store r.updates) x.store (next_of new) → new.registers ≡ after_edge event old.registers (next_of old) → x ≡ record r { store = x.store; updates = [] } → (t : State) × Follows b tree netlist s p.Going (running (phase + 1) new x waiting) t
goes_on b tree netlist s phase old new w u r x initial waiting event answer of stands is begun_now answers ran settles registers rest =
    let t : State = record { phase = s.phase + 1; store = x.store; registers = new.registers; next = next_of new; initial = all_suspended b.code tree waiting; words = r.words; text = s.text ++ r.text } in
    let came : Ran (List Suspended) = active (meaning (names b) phase) event (map (begun tree) b.always) (all_suspended b.code tree initial) u in
    let part : active_part (setting_of b tree netlist) s ≡ Pauses ran.0 (all_suspended b.code tree waiting) r = sym (ran_part b tree netlist s phase old w u initial event stands is (begins b tree s phase old w u initial event of stands is begun_now)) ∙ pauses_is b.code tree ran.0 waiting r came (subst (λ (a : Ended). AreRan b.code tree a ran.0 waiting r came) answers ran.1) in
    let now : event ≡ event_of_phase s.phase = is ∙ ap event_of_phase stands.phase in
    let edge : new.registers ≡ after_edge (event_of_phase s.phase) s.registers s.next = registers ∙ ap (λ (z : Event). after_edge z old.registers (next_of old)) now ∙ edge_same s.phase old.registers (next_of old) s.registers s.next stands.registers stands.next in
    let end : IsEnd (setting_of b tree netlist) s (all_suspended b.code tree waiting) r t = record {
      phase = refl;
      initial_is = refl;
      words = refl;
      text = refl;
      registers = edge;
      settles = subst (λ (k : ℕ). Settles (setting_of b tree netlist) k new.registers (all_applied r.store r.updates) x.store (next_of new)) stands.phase settles;
    } in
    let words : x.words ≡ r.words = ap (λ (z : World). z.words) rest in
    let text : x.text ≡ r.text = ap (λ (z : World). z.text) rest in (
      t,
      record {
        phase = subst (λ (z : Ran (List Suspended)). IsPhaseOf (setting_of b tree netlist) s z Going t) (sym part) end;
        text = ap (λ (z : List ℕ). s.text ++ z) (sym text);
        stands = λ _. record {
          phase = ap (λ (k : ℕ). k + 1) stands.phase;
          store = refl;
          words = words;
          registers = refl;
          next = λ _. refl;
          initial = refl;
        };
      },
    )

pub finishes : (b : Parts) (tree : Tree) (netlist : RawNetlist) (s : State) (phase : ℕ) (old : Simulated) (w u r : World) (initial waiting : List Process) (event : Event) (answer : Ended) → IsOf b (running phase old w initial) → Stands b tree (running phase old w initial) s → event ≡ event_of_phase phase → u ≡ record w { store = with_clock b.clock event w.store; text = [] } → answer ≡ e.Finished → (k : ℕ) × AreRan b.code tree answer k waiting r (active (meaning (names b) phase) event (map (begun tree) b.always) (all_suspended b.code tree initial) u) → (t : State) × Follows b tree netlist s p.Finished (running (phase + 1) old r waiting) t
finishes b tree netlist s phase old w u r initial waiting event answer of stands is begun_now answers ran =
    let t : State = record s { text = s.text ++ r.text } in
    let came : Ran (List Suspended) = active (meaning (names b) phase) event (map (begun tree) b.always) (all_suspended b.code tree initial) u in
    let part : active_part (setting_of b tree netlist) s ≡ Finished r = sym (ran_part b tree netlist s phase old w u initial event stands is (begins b tree s phase old w u initial event of stands is begun_now)) ∙ finished_is b.code tree ran.0 waiting r came (subst (λ (a : Ended). AreRan b.code tree a ran.0 waiting r came) answers ran.1) in (
      t,
      record {
        phase = subst (λ (z : Ran (List Suspended)). IsPhaseOf (setting_of b tree netlist) s z Finish t) (sym part) refl;
        text = refl;
        stands = λ goes. absurd cc;
      },
    )

pub is_too_long : (b : Parts) (tree : Tree) (netlist : RawNetlist) (s : State) (phase : ℕ) (old : Simulated) (w u r : World) (initial waiting : List Process) (event : Event) (answer : Ended) → IsOf b (running phase old w initial) → Stands b tree (running phase old w initial) s → event ≡ event_of_phase phase → u ≡ record w { store = with_clock b.clock event w.store; text = [] } → answer ≡ e.TooLong → (k : ℕ) × AreRan b.code tree answer k waiting r (active (meaning (names b) phase) event (map (begun tree) b.always) (all_suspended b.code tree initial) u) → (t : State) × Follows b tree netlist s p.TooLong (running (phase + 1) old r waiting) t
is_too_long b tree netlist s phase old w u r initial waiting event answer of stands is begun_now answers ran =
    let t : State = record s { text = s.text ++ r.text } in
    let came : Ran (List Suspended) = active (meaning (names b) phase) event (map (begun tree) b.always) (all_suspended b.code tree initial) u in
    let part : active_part (setting_of b tree netlist) s ≡ TooLong r = sym (ran_part b tree netlist s phase old w u initial event stands is (begins b tree s phase old w u initial event of stands is begun_now)) ∙ too_long_is b.code tree ran.0 waiting r came (subst (λ (a : Ended). AreRan b.code tree a ran.0 waiting r came) answers ran.1) in (
      t,
      record {
        phase = subst (λ (z : Ran (List Suspended)). IsPhaseOf (setting_of b tree netlist) s z Limit t) (sym part) refl;
        text = refl;
        stands = λ goes. absurd cc;
      },
    )

-- a phase of what a run holds is one of the run
pub advanced : (b parts : Parts) (tree : Tree) (s : State) (run shown new : Running) (lent : List Process) (end : PhaseEnd) → parts ≡ b → shown ≡ run → lent ≡ shown.initial → (Stands parts tree (running shown.phase shown.sim shown.scene lent) s → (t : State) × Follows parts tree shown.sim.plan.raw s end new t) → Stands b tree run s → (t : State) × Follows b tree run.sim.plan.raw s end new t
advanced b parts tree s run shown new lent end same is lends follows stands =
    let here : Stands b tree shown s = subst (λ (r : Running). Stands b tree r s) (sym is) stands in
    let inside : Stands b tree (running shown.phase shown.sim shown.scene lent) s = record {
      phase = here.phase;
      store = here.store;
      words = here.words;
      registers = here.registers;
      next = here.next;
      initial = ap (all_suspended b.code tree) lends ∙ here.initial;
    } in
    let out : (t : State) × Follows parts tree shown.sim.plan.raw s end new t = follows (subst (λ (p : Parts). Stands p tree (running shown.phase shown.sim shown.scene lent) s) (sym same) inside) in
    let of : (t : State) × Follows b tree shown.sim.plan.raw s end new t = subst (λ (p : Parts). (t : State) × Follows p tree shown.sim.plan.raw s end new t) same out in
    subst (λ (r : Running). (t : State) × Follows b tree r.sim.plan.raw s end new t) is of
