-- What a phase of a run comes to, as a phase of its setting.
use Rattle.tb_runner.proofs.Common.{◌≡◌, ℕ, ◌++◌, ◌<◌, Bool, true, false, List, [], Option, None, Some, is_some, MatchOption, Result, Ok, Err, IfOk, refl, sym, ap, ◌∙◌, subst, arith, Stmt, Plan}
use Rattle.tb_runner.proofs.Common.{IsCode, tree_of, phases_of, Running, IsOf, CanGoOn, Stands, Follows, IsAt, IsOpen, Watched, HasWatched, Simulated, setting, start, StandsIn, GoesOn, IsJob}
use Rattle.netlist_core.specs.declared.raw.RawNetlist.{RawNetlist}
use Rattle.tb_machine.specs.declared.phase_end.PhaseEnd.{PhaseEnd}
use Rattle.tb_machine.specs.declared.phase_end.PhaseEnd.TheVariants as e
use Rattle.tb_machine.specs.Phases.{Setting, State, IsPhase, ending_of}
use Rattle.tb_bench.specs.declared.parts.Parts.{Parts}
use Rattle.tb_bench.specs.Settings.{setting_of}
use Rattle.tb_turns.specs.Ends.{IfGoing}

still_stands : (b : Parts) (r new : Running) (g : Setting) (trees : List Stmt) (s t : State) (end : PhaseEnd) → IsCode b.code trees → g ≡ setting_of b (tree_of trees) r.sim.plan.raw → new.sim.plan ≡ r.sim.plan → Follows b (tree_of trees) r.sim.plan.raw s end new t → IfGoing end (StandsIn b new g t)
still_stands b r new g trees s t e.Going code same design follows = (trees, code, rw design same, follows.stands refl)
still_stands b r new g trees s t e.Finished code same design follows = tt
still_stands b r new g trees s t e.TooLong code same design follows = tt

pub phase_follows : (b : Parts) (r new : Running) (g : Setting) (trees : List Stmt) (s : State) (end : PhaseEnd) → IsCode b.code trees → g ≡ setting_of b (tree_of trees) r.sim.plan.raw → new.sim.plan ≡ r.sim.plan → ((t : State) × Follows b (tree_of trees) r.sim.plan.raw s end new t) → (t : State) × IsPhase g s (ending_of end) t × IfGoing end (StandsIn b new g t) × (t.text ≡ s.text ++ new.scene.text)
phase_follows b r new g trees s end code same design (t, follows) =
    let P : Setting → Type 0 = λ x. IsPhase x s (ending_of end) t in
    (t, subst P (sym same) follows.phase, still_stands b r new g trees s t end code same design follows, follows.text)

-- what an answer says of each thing
pub of_each : {A E X : Type 0} (r : Result A E) (P : A → X → Type 0) → ((x : X) → IfOk r (λ a. P a x)) → IfOk r (λ a. (x : X) → P a x)
of_each (Ok a) P h = h
of_each (Err e) P h = tt

-- from its parts
abbrev pub is_simulated : Parts → RawNetlist → ℕ → Simulated
is_simulated b netlist seed = record { bench = b; netlist = netlist; seed = seed }

true_is_not_false : true ≡ false → ⊥
true_is_not_false h = cc

-- a run at the start of a simulation stands there
pub starts_so : (b : Parts) (r : Running) (plan : Plan) (trees : List Stmt) (s : State) → r.sim.plan ≡ plan → IsCode b.code trees → Stands b (tree_of trees) r s → StandsIn b r (setting_of b (tree_of trees) plan.raw) s
starts_so b r plan trees s design code stands = (trees, code, ap (λ (p : Plan). setting_of b (tree_of trees) p.raw) (sym design), stands)

-- a job at its start
pub starts_as_job : (x : Simulated) (limit phases : ℕ) (run : Running) (watch : Watched) → IsOf x.bench run → run.phase ≡ 0 → phases ≡ 0 → HasWatched watch [] → ((trees : List Stmt) → IsCode x.bench.code trees → StandsIn x.bench run (setting x trees) (start x trees)) → IsJob x limit run phases watch
starts_as_job x limit phases run watch of none begun watched stands = record {
  open_still = record { going = λ e. of; counted_is = none ∙ sym begun; more = omega (arith, begun) };
  at = λ trees code. record { state = start x trees; reached = rw begun refl; run = stands trees code; text = watched };
}

-- Turns.

pub not_refused : (b : Bool) → (b ≡ true → false ≡ true) → b ≡ false
not_refused true h = sym (h refl)
not_refused false h = refl

-- what is told of each thing, where something is told
pub told_of_each : {V X : Type 0} (o : Option V) (N : X → Type 0) (S : X → V → Type 0) → ((x : X) → MatchOption o (N x) (S x)) → MatchOption o (Unit {0}) (λ v. (x : X) → S x v)
told_of_each None N S h = tt
told_of_each (Some v) N S h = h

-- without a verdict the phases so far went on
pub went_on : {V : Type 0} (o : Option V) (x : Simulated) (stands : List Stmt → State → Type 0) (heard : List ℕ → Type 0) (going : Type 0) (counted phases limit wanted : ℕ) (S : List Stmt → V → Type 0) → ((trees : List Stmt) → IsCode x.bench.code trees → MatchOption o (IsAt (setting x trees) (stands trees) heard (start x trees) phases) (S trees)) → MatchOption o (IsOpen going counted phases limit × (phases ≡ wanted)) (λ v. Unit {0}) → MatchOption o (GoesOn x phases × (phases ≡ wanted) × (phases < phases_of limit)) (λ v. Unit {0})
went_on None x stands heard going counted phases limit wanted S at open_still = (λ trees code. ((at trees code).state, (at trees code).reached), open_still.1, open_still.0.more)
went_on (Some v) x stands heard going counted phases limit wanted S at open_still = tt

-- and there is a job that goes on
pub next_job : {V : Type 0} (o : Option V) (b : Bool) (x y : Simulated) (run : Running) (limit after phases wanted : ℕ) (watch : Watched) (S : List Stmt → V → Type 0) → b ≡ is_some o → b ≡ false → y ≡ x → after ≡ limit → ((trees : List Stmt) → IsCode x.bench.code trees → MatchOption o (IsAt (setting x trees) (StandsIn y.bench run (setting x trees)) (HasWatched watch) (start x trees) phases) (S trees)) → MatchOption o (IsOpen (CanGoOn y.bench run) run.phase phases limit × (phases ≡ wanted)) (λ v. Unit {0}) → IsJob y after run phases watch
next_job None b x y run limit after phases wanted watch S told none same limits at open_still = record {
  open_still = rw limits open_still.0;
  at = λ trees code.
      let P : Simulated → Type 0 = λ z. IsAt (setting z trees) (StandsIn y.bench run (setting z trees)) (HasWatched watch) (start z trees) phases in
      let Q : Simulated → Type 0 = λ z. IsCode z.bench.code trees in
      subst P (sym same) (at trees (subst Q same code));
}
next_job (Some v) b x y run limit after phases wanted watch S told none same limits at open_still = absurd (true_is_not_false (sym told ∙ none))

pub same_simulated : (b c : Parts) (p q : Plan) (seed : ℕ) → c ≡ b → q ≡ p → is_simulated c q.raw seed ≡ is_simulated b p.raw seed
same_simulated b c p q seed same plan = ap (λ (x : Parts). is_simulated x q.raw seed) same ∙ ap (λ (x : Plan). is_simulated b x.raw seed) plan
