-- The netlist of a process (IEEE 1364-2005, 9.9): the cells of its statements, and then joints or registers of its variables, which
-- have their own bits again.
--
-- An example: where `q` and `d` are the nets 0 and 1, `always @(posedge c) q <= ~d;` lays the cell of `~d`, whose Y is net 2, and
-- a register of the name `q` with net 2 at D and net 0 at Q. `always @* q = ~d;` lays the same cell, and joins net 0 to net 2.
use Rattle.std.specs.Prelude.{ℕ, List, [], ◌∷◌, ◌++◌, length, Option, None, Some}
use Rattle.mcy_base.specs.declared.word.Word.{Word}
use Rattle.netlist_core.specs.declared.bit.Bit.{Bit}
use Rattle.netlist_core.specs.declared.port.Register.{Register}
use Rattle.vlog_syntax.specs.declared.item.Process.{Process}
use Rattle.vlog_meaning.specs.Scopes.{Names}
use Rattle.vlog_effects.specs.Steps.{Steps, word_of}
use Rattle.net_builder.specs.declared.builder.Joint.{Joint}
use Rattle.net_builder.specs.Building.{Building, signal, declared_at, start_bits}
use Rattle.elab_proc.specs.declared.refusal.Refusal.{Refusal}
use Rattle.flat_runs.specs.Parts.{with_joints, with_registers}
use Rattle.process_events.specs.Events.{Sensitivity, Combinational, Clocked, sensitivity}
use Rattle.proc_muxes.specs.Builds.{Work}
use Rattle.proc_muxes.specs.Laid.{lay_steps}
use Rattle.process_cells.specs.Items.{process_steps}
use Rattle.process_cells.specs.Processes.{variables, given_own, blank, last_seen, last_bits, joints_of}

-- each own bit of the variables, which is a net, is joined to the bit that the variable has at the end
abbrev pub lay_joints : Building → List ℕ → List (List Bit) → List Joint
lay_joints b [] lasts = []
lay_joints b (k ∷ ks) [] = []
lay_joints b (k ∷ ks) (last ∷ lasts) = joints_of (signal b k) last ++ lay_joints b ks lasts

-- the register of a variable, with the name, the place and the start value of its signal
abbrev pub lay_register : Building → ℕ → List Bit → Option Word → List Register
lay_register b k last None = []
lay_register b k last (Some start) = record { name = (declared_at b k).name; span = (declared_at b k).span; d = last; q = signal b k; start = start } ∷ []

abbrev pub lay_registers : Building → List ℕ → List (List Bit) → List Register
lay_registers b [] lasts = []
lay_registers b (k ∷ ks) [] = []
lay_registers b (k ∷ ks) (last ∷ lasts) = lay_register b k last (word_of (length (signal b k)) (start_bits b k)) ++ lay_registers b ks lasts

-- The statements of a process, which begin with some bits for its variables. What waits are a signal's own bits.
abbrev pub lay_body : Steps → (begun own : Building) → Work
lay_body steps begun own = lay_steps steps (record { building = begun; pending = signal own })

abbrev pub lay_combinational : Steps → Building → Building
lay_combinational steps b =
    let done = lay_body steps (blank (variables steps) b) b in
    with_joints (given_own b done) (lay_joints b (variables steps) (last_seen done (variables steps)))

abbrev pub lay_clocked : Steps → Building → Building
lay_clocked steps b =
    let done = lay_body steps b b in
    with_registers (given_own b done) (lay_registers b (variables steps) (last_bits steps done (variables steps)))

-- statements that run once lay nothing
abbrev pub lay_by : Sensitivity → Steps → Building → Building
lay_by Combinational steps b = lay_combinational steps b
lay_by (Clocked clock) steps b = lay_clocked steps b
lay_by other steps b = b

abbrev pub lay_process : Names → Process → Building → Building
lay_process names p b = lay_by (sensitivity p) (process_steps names p) b

-- what a process lays where something is refused in it, or not
abbrev pub lay_accepted : Names → Process → Option Refusal → Building → Building
lay_accepted names p None b = lay_process names p b
lay_accepted names p (Some refusal) b = b
