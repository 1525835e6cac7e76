-- The phases of a simulation, each a relation between the values at its start, the text that
-- it prints, and the values at its end.
use Rattle.std.specs.Prelude.{◌≡◌, ℕ, zero, suc, ◌+◌, ◌/◌, ◌%◌, ◌^◌, Bool, true, false, ◌==◌, List, [], ◌∷◌, ◌++◌, length, slice_get, slice_index, Some, if◌then◌else◌}
use Rattle.rand_pcg.specs.Lcg.{Lcg}
use Rattle.tb_machine.specs.declared.event.Event.{Event}
use Rattle.tb_machine.specs.declared.event.Event.TheVariants.{Start, Rise, Fall}
use Rattle.netlist_core.specs.declared.raw.RawNetlist.{RawNetlist}
use Rattle.netlist_core.specs.Runs.{Nets, plain, shown, taken, Holds as IsCycle}
use Rattle.tb_machine.specs.declared.phase_end.PhaseEnd.{PhaseEnd}
use Rattle.tb_machine.specs.declared.phase_end.PhaseEnd.TheVariants as e
use Rattle.tb_machine.specs.declared.update.Update.{Update}
use Rattle.tb_machine.specs.Worlds.{World, all_applied, some_gives}
use Rattle.tb_machine.specs.Steps.{Meaning, Suspended, Ran, Pauses, Finished, TooLong, goes_on}

-- statements of a phase
abbrev pub max_statements : ℕ
max_statements = 100000

-- whether a process waits for the event
abbrev pub waits_for : Event → Event → Bool
waits_for Start Start = true
waits_for Rise Rise = true
waits_for Fall Fall = true
waits_for event other = false

-- a process that waits for the event goes on, and any other is left as it is
abbrev pub woken : Meaning → Event → ℕ → Suspended → World → Ran Suspended
woken m event left p w = if waits_for p.event event then goes_on m p.event left p.work w else Pauses left p w

abbrev pub before : Suspended → Ran (List Suspended) → Ran (List Suspended)
before p (Pauses left ps w) = Pauses left (p ∷ ps) w
before p (Finished w) = Finished w
before p (TooLong w) = TooLong w

-- processes one after the other, in the order of the source
abbrev pub all_woken : Meaning → Event → ℕ → List Suspended → World → Ran (List Suspended)
all_woken m event left [] w = Pauses left [] w
all_woken m event left (p ∷ more) w = elim (woken m event left p w) [ Pauses n q v ↦ before q (all_woken m event n more v) | Finished v ↦ Finished v | TooLong v ↦ TooLong v ]

-- The active part of a phase: the `always` processes of the event, each from its start, and then the waiting `initial`
-- processes.
abbrev pub active : Meaning → Event → List Suspended → List Suspended → World → Ran (List Suspended)
active m event always initial w = elim (all_woken m event max_statements always w) [ Pauses n qs v ↦ all_woken m event n initial v | Finished v ↦ Finished v | TooLong v ↦ TooLong v ]

-- phase 0 starts, and then the clock rises and falls in turn
abbrev pub event_of_phase : ℕ → Event
event_of_phase zero = Start
event_of_phase (suc n) = if n % 2 == 0 then Rise else Fall

-- What stays the same over a simulation: the bench and the design.
pub record Setting : Type 0 where
  -- what expressions mean in each phase
  pub meaning : ℕ → Meaning
  -- the `always` processes, each from its start
  pub always : List Suspended
  -- the widths of the signals
  pub widths : List ℕ
  -- the store with the clock's value in a phase
  pub clocked : ℕ → List ℕ → List ℕ
  -- the design
  pub netlist : RawNetlist
  -- the values at its inputs, from the store, and the updates of what its outputs are connected to, from their values
  pub inputs : List ℕ → List ℕ
  pub outputs : List ℕ → List Update
  -- the updates of each assign of the bench, in a phase, from the store
  pub assigns : List (ℕ → List ℕ → List Update)

-- bit i of a number
abbrev pub bit_of : ℕ → ℕ → ℕ
bit_of v i = v / 2 ^ i % 2

-- updates hold in a store where they change nothing
abbrev pub Hold : List ℕ → List Update → Type 0
Hold store us = all_applied store us ≡ store

-- All settles in a phase, from the registers and the store before, to the store and to what stands at each D: each assign
-- and each output holds, the design's nets are those of a cycle of its run, and a bit that no assign and no output gives a
-- value is as it was.
pub record Settles (g : Setting) (phase : ℕ) (registers before after next : List ℕ) : Type 0 where
  pub nets : Nets
  pub design : IsCycle (plain nets) nets g.netlist (g.inputs after) registers
  pub taken_is : next ≡ taken (plain nets) 0 g.netlist.registers
  pub shown_holds : Hold after (g.outputs (shown (plain nets) g.netlist))
  pub assigns_hold : (k : ℕ) (updates : ℕ → List ℕ → List Update) → slice_get g.assigns k ≡ Some updates → Hold after (updates phase after)
  pub long : length after ≡ length before
  pub kept : (k i : ℕ) → ((j : ℕ) (updates : ℕ → List ℕ → List Update) → slice_get g.assigns j ≡ Some updates → some_gives (updates phase after) k i ≡ false) → some_gives (g.outputs (shown (plain nets) g.netlist)) k i ≡ false → bit_of (slice_index after k) i ≡ bit_of (slice_index before k) i

-- What a simulation is at between two phases: the number of the next phase, the values of signals, the design's
-- registers and what stands at each D, the `initial` processes, where `$random` stands, and the text so far.
pub record State : Type 0 where
  pub phase : ℕ
  pub store : List ℕ
  pub registers : List ℕ
  pub next : List ℕ
  pub initial : List Suspended
  pub words : Lcg
  pub text : List ℕ

-- the active part of the next phase, with the text that it prints
abbrev pub active_part : Setting → State → Ran (List Suspended)
active_part g s = active (g.meaning s.phase) (event_of_phase s.phase) g.always s.initial (record { widths = g.widths; store = g.clocked s.phase s.store; words = s.words; updates = []; text = [] })

-- registers take what stood at their D where the clock rises
abbrev pub after_edge : Event → List ℕ → List ℕ → List ℕ
after_edge Rise registers next = next
after_edge Fall registers next = registers
after_edge Start registers next = registers

-- The end of a phase whose processes wait: updates apply in the order of execution, registers take their D, and all
-- settles.
pub record IsEnd (g : Setting) (s : State) (initial : List Suspended) (w : World) (t : State) : Type 0 where
  pub phase : t.phase ≡ s.phase + 1
  pub initial_is : t.initial ≡ initial
  pub words : t.words ≡ w.words
  pub text : t.text ≡ s.text ++ w.text
  pub registers : t.registers ≡ after_edge (event_of_phase s.phase) s.registers s.next
  pub settles : Settles g s.phase t.registers (all_applied w.store w.updates) t.store t.next

-- How a phase ends: the processes wait, `$finish` was reached, or a statement was due and none was left.
pub data Ending : Type 0 where
  Going : Ending
  Finish : Ending
  Limit : Ending

abbrev pub ending_of : PhaseEnd → Ending
ending_of e.Going = Going
ending_of e.Finished = Finish
ending_of e.TooLong = Limit

abbrev pub IsPhaseOf : Setting → State → Ran (List Suspended) → Ending → State → Type 0
IsPhaseOf g s (Pauses left ps w) Going t = IsEnd g s ps w t
IsPhaseOf g s (Finished w) Finish t = t ≡ record s { text = s.text ++ w.text }
IsPhaseOf g s (TooLong w) Limit t = t ≡ record s { text = s.text ++ w.text }
IsPhaseOf g s ran ending t = ⊥

-- a phase
abbrev pub IsPhase : Setting → State → Ending → State → Type 0
IsPhase g s ending t = IsPhaseOf g s (active_part g s) ending t
