-- What is added of a process is what it lays.
use Rattle.process_cells.proofs.Common.{◌≡◌, ℕ, suc, ◌+◌, Bool, true, false, not, List, [], ◌∷◌, ◌++◌, map, length, slice_get, Some, refl, sym, ◌∙◌, ap, subst, arith, Result, Ok, Err, IfOk, Bit, Net}
use Rattle.process_cells.proofs.Common.{Register, Process, Names, Target, targets, Steps, word_of, Joint, ElabError, Building, signal, declared_at, start_bits, Refusal, AreJoints, AllJoin, AreStored}
use Rattle.process_cells.proofs.Common.{places_from, with_joints, with_registers, Sensitivity, Once, Combinational, Clocked, Refused, sensitivity, Work, held, stands, Conforms, last_held, Adds}
use Rattle.process_cells.proofs.Common.{BuildsBy, process_steps, ProcessesAreLaid, variables, given_own, blank, last_seen, last_bits, has_blocking, AreNamed, joints_of, Combines, Clocks, AllWait}
use Rattle.std.specs.Prelude.{Option, None}
use Rattle.elab_proc.proofs.TurnLemmas.{word_again}
use Rattle.proc_muxes.specs.Laid.{lay_steps}
use Rattle.proc_muxes.proofs.Alike.{Alike, Within, within-stands, steps-alike}
use Rattle.proc_muxes.proofs.Laying.{steps-laid}
use Rattle.process_cells.specs.Laid.{lay_joints, lay_register, lay_registers, lay_combinational, lay_clocked, lay_by, lay_accepted}
use Rattle.process_cells.proofs.Assigned.{blocking_conform}

-- Joints.

-- the joints of a variable whose bits from one on are these
joints_laid : (b : Building) (k i : ℕ) (own lasts : List Bit) (js : List Joint) → ((j : ℕ) → slice_get own j ≡ slice_get (signal b k) (i + j)) → AreJoints b (places_from k i (length own)) lasts js → js ≡ joints_of own lasts
joints_laid b k i [] lasts [] at h = refl
joints_laid b k i [] lasts (j ∷ js) at h = absurd h
joints_laid b k i (x ∷ own) [] [] at h = absurd h
joints_laid b k i (x ∷ own) [] (j ∷ js) at h = absurd h
joints_laid b k i (x ∷ own) (y ∷ lasts) [] at h = absurd h
joints_laid b k i (x ∷ own) (y ∷ lasts) (j ∷ js) at h =
    let here : slice_get (signal b k) (i + 0) ≡ slice_get (signal b k) i = (let e : i + 0 ≡ i = omega arith in ap (slice_get (signal b k)) e) in
    let is : Some x ≡ Some (Net j.net) = at 0 ∙ here ∙ h.0 in
    let bit : x ≡ Net j.net = cc in
    let rest : js ≡ joints_of own lasts = joints_laid b k (suc i) own lasts js (λ n. (let e : i + suc n ≡ suc i + n = omega arith in at (suc n) ∙ ap (slice_get (signal b k)) e)) h.2 in
    subst (λ (z : Bit). j ∷ js ≡ joints_of (z ∷ own) (y ∷ lasts)) (sym bit) (λ t. record { net = j.net; bit = h.1 t } ∷ rest t)

all_joints_laid : (b : Building) (ks : List ℕ) (lasts : List (List Bit)) (js : List Joint) → AllJoin b ks lasts js → js ≡ lay_joints b ks lasts
all_joints_laid b [] lasts js h = h
all_joints_laid b (k ∷ ks) [] js h = absurd h
all_joints_laid b (k ∷ ks) (last ∷ lasts) js h =
    let first : h.0 ≡ joints_of (signal b k) last = joints_laid b k 0 (signal b k) last h.0 (λ n. (let e : n ≡ 0 + n = omega arith in ap (slice_get (signal b k)) e)) h.3 in
    let rest : h.1 ≡ lay_joints b ks lasts = all_joints_laid b ks lasts h.1 h.4 in
    h.2 ∙ (λ t. first t ++ rest t)

-- Registers.

register_laid : (b : Building) (k : ℕ) (last : List Bit) (r : Register) → r.q ≡ signal b k → r.d ≡ last → r.name ≡ (declared_at b k).name → r.span ≡ (declared_at b k).span → r.start.bits ≡ start_bits b k → r.start.width ≡ length (signal b k) → r ∷ [] ≡ lay_register b k last (word_of (length (signal b k)) (start_bits b k))
register_laid b k last r q d name span bits width =
    let start : Some r.start ≡ word_of (length (signal b k)) (start_bits b k) = sym (word_again r.start) ∙ (λ t. word_of (width t) (bits t)) in
    (λ t. record { name = name t; span = span t; d = d t; q = q t; start = r.start } ∷ []) ∙ ap (lay_register b k last) start

registers_laid : (b : Building) (ks : List ℕ) (lasts : List (List Bit)) (rs : List Register) → AreStored b ks lasts rs → AreNamed b ks rs → rs ≡ lay_registers b ks lasts
registers_laid b [] lasts [] s n = refl
registers_laid b [] lasts (r ∷ rs) s n = absurd n
registers_laid b (k ∷ ks) [] [] s n = absurd n
registers_laid b (k ∷ ks) [] (r ∷ rs) s n = absurd s
registers_laid b (k ∷ ks) (last ∷ lasts) [] s n = absurd n
registers_laid b (k ∷ ks) (last ∷ lasts) (r ∷ rs) s n =
    let first : r ∷ [] ≡ lay_register b k last (word_of (length (signal b k)) (start_bits b k)) = register_laid b k last r s.0 s.1 n.0 n.1 n.2 n.3 in
    let rest : rs ≡ lay_registers b ks lasts = registers_laid b ks lasts rs s.2 n.4 in
    λ t. first t ++ rest t

-- Combinational processes: nothing that waits is read.

none_waits : (xs : List Target) → Conforms (λ n. true) xs → Within (λ n. ⊥) xs
none_waits [] c = tt
none_waits (x ∷ xs) c = (λ e. (let f = c.0 in absurd cc), none_waits xs c.1)

combinational_laid : (steps : Steps) (old new : Building) → Combines steps old new → new ≡ lay_combinational steps old
combinational_laid steps old new c =
    let ks : List ℕ = variables steps in
    let a : Work = c.begun in
    let start : Work = record { building = blank ks old; pending = signal old } in
    let r : Alike (λ n. ⊥) (lay_steps steps a) (lay_steps steps start) = steps-alike (λ n. ⊥) steps a start (none_waits (targets steps) (blocking_conform steps c.blocking)) (record { same = c.blank_is; waits = λ n d. absurd d }) in
    let same : c.done.building ≡ (lay_steps steps start).building = ap (λ (w : Work). w.building) (steps-laid steps a c.done c.built) ∙ r.same in
    let joints : c.joints ≡ lay_joints old ks (last_seen c.done ks) = all_joints_laid old ks (last_seen c.done ks) c.joints c.joined in
    c.is
    ∙ ap (with_joints (given_own old c.done)) joints
    ∙ ap (λ (x : Building). with_joints (record x { signals = old.signals }) (lay_joints old ks (map (signal x) ks))) same

-- Clocked processes: of what waits, the own bits of the variables alone are read.

own_wait : (a : Work) (old : Building) (xs : List Target) → a.building ≡ old → AllWait a xs → Within (λ n. a.pending n ≡ signal old n) xs
own_wait a old [] is h = tt
own_wait a old (x ∷ xs) is h = (λ e. h.0 e ∙ ap (λ (b : Building). signal b x.number) is, own_wait a old xs is h.1)

last_alike : (D : ℕ → Type 0) (steps : Steps) (v w : Work) (n : ℕ) → Within D (targets steps) → Alike D v w → last_held (has_blocking steps) v n ≡ last_held (has_blocking steps) w n
last_alike D steps v w n within r = go (stands false (targets steps) n) refl where
  go : (b : Bool) → stands false (targets steps) n ≡ b → held v (not b) n ≡ held w (not b) n
  go true e = r.waits n (within-stands D (targets steps) n within e)
  go false e = ap (λ (x : Building). signal x n) r.same

clocked_laid : (steps : Steps) (old new : Building) → Clocks steps old new → new ≡ lay_clocked steps old
clocked_laid steps old new c =
    let ks : List ℕ = variables steps in
    let a : Work = c.begun in
    let start : Work = record { building = old; pending = signal old } in
    let within = own_wait a old (targets steps) c.begun_is c.waits in
    let r : Alike (λ n. a.pending n ≡ signal old n) (lay_steps steps a) (lay_steps steps start) = steps-alike (λ n. a.pending n ≡ signal old n) steps a start within (record { same = c.begun_is; waits = λ n d. d }) in
    let built : c.done ≡ lay_steps steps a = steps-laid steps a c.done c.built in
    let same : c.done.building ≡ (lay_steps steps start).building = ap (λ (w : Work). w.building) built ∙ r.same in
    let lasts : last_bits steps c.done ks ≡ last_bits steps (lay_steps steps start) ks =
    ap (λ (w : Work). last_bits steps w ks) built
    ∙ (λ t. map (λ n. last_alike (λ m. a.pending m ≡ signal old m) steps (lay_steps steps a) (lay_steps steps start) n within r t) ks) in
    let registers : c.registers ≡ lay_registers old ks (last_bits steps (lay_steps steps start) ks) = registers_laid old ks (last_bits steps c.done ks) c.registers c.stored c.named ∙ ap (lay_registers old ks) lasts in
    c.is ∙ (λ t. with_registers (record (same t) { signals = old.signals }) (registers t))

-- Processes.

built_laid : (when : Sensitivity) (steps : Steps) (old new : Building) → BuildsBy when steps old new → new ≡ lay_by when steps old
built_laid Once steps old new h = h
built_laid Combinational steps old new h = combinational_laid steps old new h
built_laid (Clocked clock) steps old new h = clocked_laid steps old new h
built_laid (Refused at feature) steps old new h = h

pub processes_laid : ProcessesAreLaid
processes_laid names p old new f = built_laid (sensitivity p) (process_steps names p) old new f.builds

found_laid : (names : Names) (p : Process) (old new : Building) (o : Option Refusal) → Adds names p old new o → new ≡ lay_accepted names p o old
found_laid names p old new None f = processes_laid names p old new f
found_laid names p old new (Some refusal) f = f

pub result_laid : (names : Names) (p : Process) (old new : Building) (r : Result (Option Refusal) ElabError) → IfOk r (λ o. Adds names p old new o) → IfOk r (λ o. new ≡ lay_accepted names p o old)
result_laid names p old new (Ok o) f = found_laid names p old new o f
result_laid names p old new (Err e) f = tt
