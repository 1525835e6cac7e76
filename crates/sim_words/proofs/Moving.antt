-- A simulation with a netlist is one with another that has its cycles.
use Rattle.std.proofs.Common.{◌≡◌, ℕ, zero, suc, false, List, sym, ◌∙◌, subst}
use Rattle.netlist_core.specs.declared.raw.RawNetlist.{RawNetlist}
use Rattle.tb_machine.specs.Worlds.{World, all_applied, some_gives}
use Rattle.tb_machine.specs.Steps.{Suspended, Ran, Pauses, Finished, TooLong}
use Rattle.tb_machine.specs.Phases.{Setting, State, Hold, Settles, IsEnd, Ending, Going, Finish, Limit, IsPhaseOf, active_part}
use Rattle.tb_machine.specs.Simulations.{Outcome, IsSimulation}
use Rattle.sim_words.specs.SimWords.{HasCyclesOf}

module _ (g : Setting) (other : RawNetlist) (cycles : HasCyclesOf other g.netlist) where
  abbrev moved : Setting
  moved = record g { netlist = other }

  settles-moved : (phase : ℕ) (registers before after next : List ℕ) → Settles g phase registers before after next → Settles moved phase registers before after next
  settles-moved phase registers before after next s =
      let c = cycles (g.inputs after) registers s.nets s.design in
      let P : List ℕ → Type 0 = λ values. Hold after (g.outputs values) in
      record {
        nets = c.0;
        design = c.1;
        taken_is = s.taken_is ∙ sym c.3;
        shown_holds = subst P (sym c.2) s.shown_holds;
        assigns_hold = s.assigns_hold;
        long = s.long;
        kept = λ k i none_ none_shown.
            let Q : List ℕ → Type 0 = λ values. some_gives (g.outputs values) k i ≡ false in
            s.kept k i none_ (subst Q c.2 none_shown);
      }

  end-moved : (s t : State) (initial : List Suspended) (w : World) → IsEnd g s initial w t → IsEnd moved s initial w t
  end-moved s t initial w end = record {
    phase = end.phase;
    initial_is = end.initial_is;
    words = end.words;
    text = end.text;
    registers = end.registers;
    settles = settles-moved s.phase t.registers (all_applied w.store w.updates) t.store t.next end.settles;
  }

  phase_of-moved : (s t : State) (ran : Ran (List Suspended)) (ending : Ending) → IsPhaseOf g s ran ending t → IsPhaseOf moved s ran ending t
  phase_of-moved s t (Pauses left initial w) Going end = end-moved s t initial w end
  phase_of-moved s t (Pauses left initial w) Finish end = end
  phase_of-moved s t (Pauses left initial w) Limit end = end
  phase_of-moved s t (Finished w) Going end = end
  phase_of-moved s t (Finished w) Finish end = end
  phase_of-moved s t (Finished w) Limit end = end
  phase_of-moved s t (TooLong w) Going end = end
  phase_of-moved s t (TooLong w) Finish end = end
  phase_of-moved s t (TooLong w) Limit end = end

  pub simulation-moved : (n : ℕ) (s : State) (o : Outcome) → IsSimulation g n s o → IsSimulation moved n s o
  simulation-moved zero s o is = is
  simulation-moved (suc n) s o (Going, t, phase, rest) = (Going, t, phase_of-moved s t (active_part g s) Going phase, simulation-moved n t o rest)
  simulation-moved (suc n) s o (Finish, t, phase, rest) = (Finish, t, phase_of-moved s t (active_part g s) Finish phase, rest)
  simulation-moved (suc n) s o (Limit, t, phase, rest) = (Limit, t, phase_of-moved s t (active_part g s) Limit phase, rest)
