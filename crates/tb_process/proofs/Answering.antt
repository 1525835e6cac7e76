-- What the processes of a phase came to, by the answers of those that ran.
use Rattle.tb_process.proofs.Common.{◌≡◌, ℕ, List, map, Result, IfOk, refl, ap, sym, ◌∙◌, subst, IfOk-weaker, Event, Ended, Node, Process, World, Meaning, Suspended, Ran, Pauses, Finished, TooLong}
use Rattle.tb_process.proofs.Common.{all_woken, active, max_statements, Tree, AreRan, all_suspended, Waiting, begun}
use Rattle.tb_machine.specs.declared.machine.Ended.TheVariants as e

pub pauses_is : (nodes : List Node) (tree : Tree) (left : ℕ) (ps : List Process) (v : World) (ran : Ran (List Suspended)) → AreRan nodes tree e.Pauses left ps v ran → ran ≡ Pauses left (all_suspended nodes tree ps) v
pauses_is nodes tree left ps v (Pauses n qs w) h = rw (h.0, h.1, h.2) refl
pauses_is nodes tree left ps v (Finished w) h = absurd h
pauses_is nodes tree left ps v (TooLong w) h = absurd h

pub finished_is : (nodes : List Node) (tree : Tree) (left : ℕ) (ps : List Process) (v : World) (ran : Ran (List Suspended)) → AreRan nodes tree e.Finished left ps v ran → ran ≡ Finished v
finished_is nodes tree left ps v (Pauses n qs w) h = absurd h
finished_is nodes tree left ps v (Finished w) h = rw h refl
finished_is nodes tree left ps v (TooLong w) h = absurd h

pub too_long_is : (nodes : List Node) (tree : Tree) (left : ℕ) (ps : List Process) (v : World) (ran : Ran (List Suspended)) → AreRan nodes tree e.TooLong left ps v ran → ran ≡ TooLong v
too_long_is nodes tree left ps v (Pauses n qs w) h = absurd h
too_long_is nodes tree left ps v (Finished w) h = absurd h
too_long_is nodes tree left ps v (TooLong w) h = rw h refl

-- The `initial` processes go on where the `always` processes are done.

abbrev then_active : Meaning → Event → List Suspended → Ran (List Suspended) → Ran (List Suspended)
then_active m event initial (Pauses n qs v) = all_woken m event n initial v
then_active m event initial (Finished v) = Finished v
then_active m event initial (TooLong v) = TooLong v

pub both_ran : {E : Type 0} (m : Meaning) (event : Event) (nodes code : List Node) (tree : Tree) (ws : List Waiting) (first given done initial lent waiting : List Process) (left n : ℕ) (u v w : World) (answer : Ended) (r : Result Ended E) → nodes ≡ code → answer ≡ e.Pauses → all_suspended nodes tree first ≡ map (begun tree) ws → given ≡ first → AreRan nodes tree answer left done v (all_woken m event max_statements (all_suspended nodes tree given) u) → lent ≡ initial → IfOk r (λ x. AreRan nodes tree x n waiting w (all_woken m event left (all_suspended nodes tree lent) v)) → IfOk r (λ x. (k : ℕ) × AreRan code tree x k waiting w (active m event (map (begun tree) ws) (all_suspended code tree initial) u))
both_ran {E = E} m event nodes code tree ws first given done initial lent waiting left n u v w answer r same is began begins ran goes then =
    let paused : all_woken m event max_statements (all_suspended nodes tree given) u ≡ Pauses left (all_suspended nodes tree done) v = pauses_is nodes tree left done v (all_woken m event max_statements (all_suspended nodes tree given) u) (subst (λ (a : Ended). AreRan nodes tree a left done v (all_woken m event max_statements (all_suspended nodes tree given) u)) is ran) in
    let start : all_woken m event max_statements (map (begun tree) ws) u ≡ Pauses left (all_suspended nodes tree done) v = ap (λ (qs : List Suspended). all_woken m event max_statements qs u) (sym (ap (all_suspended nodes tree) begins ∙ began)) ∙ paused in
    let part : active m event (map (begun tree) ws) (all_suspended nodes tree lent) u ≡ all_woken m event left (all_suspended nodes tree lent) v = ap (then_active m event (all_suspended nodes tree lent)) start in
    let P : Ended → Type 0 = λ x. AreRan nodes tree x n waiting w (all_woken m event left (all_suspended nodes tree lent) v) in
    let Q : Ended → Type 0 = λ x. (k : ℕ) × AreRan nodes tree x k waiting w (active m event (map (begun tree) ws) (all_suspended nodes tree lent) u) in
    let all : IfOk r Q = IfOk-weaker r P Q (λ x h. (n, subst (AreRan nodes tree x n waiting w) (sym part) h)) then in
    let here : IfOk r (λ x. (k : ℕ) × AreRan code tree x k waiting w (active m event (map (begun tree) ws) (all_suspended code tree lent) u)) = subst (λ (ns : List Node). IfOk r (λ x. (k : ℕ) × AreRan ns tree x k waiting w (active m event (map (begun tree) ws) (all_suspended ns tree lent) u))) same all in
    subst (λ (ps : List Process). IfOk r (λ x. (k : ℕ) × AreRan code tree x k waiting w (active m event (map (begun tree) ws) (all_suspended code tree ps) u))) goes here
