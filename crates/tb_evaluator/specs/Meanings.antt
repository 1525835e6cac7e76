-- What expressions, assignments and system tasks of a testbench mean to its processes in a phase: they are evaluated with the
-- values that the world has of the signals, and the generator goes on in the world after them.
use Rattle.std.specs.Prelude.{◌≡◌, ℕ, true, ◌||◌, List, [], ◌++◌, slice_index}
use Rattle.rand_pcg.specs.Lcg.{Lcg}
use Rattle.vlog_syntax.specs.declared.stmt.Argument.{Argument}
use Rattle.vlog_meaning.specs.Scopes.{Names, Store}
use Rattle.vlog_meaning.specs.Senses.{IsWhole}
use Rattle.tb_machine.specs.Worlds.{World}
use Rattle.tb_machine.specs.Steps.{Meaning}
use Rattle.tb_machine.specs.Known.{Request, Test, Count, Choose, Assign, Perform}
use Rattle.tb_values.specs.Values.{condition, turns}
use Rattle.tb_choices.specs.Choices.{chosen, LabelsWhole}
use Rattle.tb_assigns.specs.Updates.{updates, CanAssign}
pub use Rattle.tb_formulas.specs.Signals.{HasSignal, HasSignals}
use Rattle.tb_plans.specs.declared.plan.Plan.{Plan}
use Rattle.tb_plans.specs.Plans.{IsPlanned}
use Rattle.tb_tasks.specs.Tasks.{performed, is_display, is_write, AreWhole}

-- the values of the signals in a world
abbrev pub store_in : World → Store
store_in w = λ number. slice_index w.store number

-- what an evaluation comes to, and the world after it
abbrev pub in_world : {A : Type 0} → World → A × Lcg → A × World
in_world w a = (a.0, record w { words = a.1 })

-- a task prints behind the text
abbrev pub printed_in : World → List ℕ × Lcg → World
printed_in w o = record w { words = o.1; text = w.text ++ o.0 }

abbrev pub meaning : Names → ℕ → Meaning
meaning names phase = record {
  holds = λ x w. in_world w (condition names phase x (store_in w) w.words);
  count = λ x w. in_world w (turns names phase x (store_in w) w.words);
  choice = λ kind x labels w. in_world w (chosen names phase kind x labels (store_in w) w.words);
  updates = λ a w. in_world w (updates names phase a (store_in w) w.words);
  task = λ name arguments w. printed_in w (performed (record { names = names; phase = phase; store = store_in w }) name arguments ([], w.words));
}

-- the arguments of a task that prints have shapes
abbrev pub CanPerform : Names → List ℕ → List Argument → Type 0
CanPerform names name arguments = (is_display name || is_write name) ≡ true → AreWhole names arguments

-- What a statement asks for has shapes.
abbrev pub IsSound : Names → Request → Type 0
IsSound names (Test x) = IsWhole names x
IsSound names (Count x) = IsWhole names x
IsSound names (Choose kind x labels) = IsWhole names x × LabelsWhole names labels
IsSound names (Assign part a) = CanAssign names a
IsSound names (Perform name arguments) = CanPerform names name arguments

-- What a statement with this plan asks for can be answered: where there is a plan, it means the same.
abbrev pub CanAnswer : Names → Plan → Request → Type 0
CanAnswer names plan request = IsSound names request × IsPlanned names plan request
