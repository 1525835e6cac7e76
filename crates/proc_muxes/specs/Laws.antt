-- Laws of what statements build: what it keeps, and that it has the effect of the statements in every run.
use Rattle.std.specs.Prelude.{◌≡◌, ℕ, Bool, false, List, [], ◌∷◌, ◌++◌}
use Rattle.mcy_base.specs.declared.span.Span.{Span}
use Rattle.netlist_core.specs.declared.bit.Bit.{Bit}
use Rattle.netlist_core.specs.Runs.{Nets, values}
use Rattle.vlog_effects.specs.Steps.{Steps, Test, Done, Choose, followed}
use Rattle.vlog_effects.specs.Effects.{State, effect, left_by}
use Rattle.vlog_effects.specs.Latches.{Target, targets}
use Rattle.net_builder.specs.Building.{RunsIn, signal}
use Rattle.proc_muxes.specs.declared.change.Change.{Change}
use Rattle.proc_muxes.specs.Builds.{Work, Builds, BuildsTest, ChoosesAll}
use Rattle.proc_muxes.specs.Laid.{lay_steps}
use Rattle.proc_muxes.specs.Shows.{Shows, Conforms, Keeps, StandsBelow, last_held}
use Rattle.proc_muxes.specs.Working.{Built, AreWide, AllFit, AllChoicesFit, all_have, given_back, joined, chosen}

-- statements change what their targets have, and nothing else but cells
abbrev pub BuildingKeeps : Type 0
BuildingKeeps = (steps : Steps) (a b : Work) → Builds steps a b → Keeps (targets steps) a b

-- In every run of the builder, what it has after the statements are the values of their effect.
abbrev pub BuildsTheEffect : Type 0
BuildsTheEffect = (nets : Nets) (kinds : ℕ → Bool) (steps : Steps) (a b : Work) (s : State) → Builds steps a b → Conforms kinds (targets steps) → RunsIn b.building nets → Shows nets kinds a s → Shows nets kinds b (effect steps s)

-- So a process leaves in every run what its statements leave from the values that the signals have before, where each
-- variable with nonblocking assignments waits with these values.
abbrev pub LeavesTheEffect : Type 0
LeavesTheEffect = (nets : Nets) (kinds : ℕ → Bool) (steps : Steps) (a b : Work) → Builds steps a b → Conforms kinds (targets steps) → RunsIn b.building nets → ((n : ℕ) → kinds n ≡ false → a.pending n ≡ signal a.building n) → (n : ℕ) → values nets (last_held kinds b n) ≡ left_by steps (λ k. values nets (signal a.building k)) n

-- What is built of statements is what they lay. So they have one netlist from what the builder and the variables have before.
abbrev pub StatementsAreLaid : Type 0
StatementsAreLaid = (steps : Steps) (a b : Work) → Builds steps a b → b ≡ lay_steps steps a

-- the same bits wait for each of these variables that has nonblocking assignments
abbrev pub WaitAlike : Work → Work → List Target → Type 0
WaitAlike a b [] = Unit {0}
WaitAlike a b (x ∷ more) = (x.is_blocking ≡ false → a.pending x.number ≡ b.pending x.number) × WaitAlike a b more

-- What statements lay goes by the builder and by the bits that wait for their own variables.
abbrev pub LaidByWhatWaits : Type 0
LaidByWhatWaits = (steps : Steps) (a b : Work) → a.building ≡ b.building → WaitAlike a b (targets steps) → ((lay_steps steps a).building ≡ (lay_steps steps b).building) × WaitAlike (lay_steps steps a) (lay_steps steps b) (targets steps)

-- How statements are built from what the calls of their parts have done.

-- a choice: its condition, its first part, which is set aside, its second part, and its muxes
abbrev pub ChoicesAreBuilt : Type 0
ChoicesAreBuilt = (at : Span) (c : Test) (p q : Steps) (a t y w n b : Work) (test : List Bit) (cs ds : List Change) → BuildsTest c a t test → Built p t y cs → w ≡ given_back cs y → Built q w n ds → ChoosesAll at test (chosen (all_have y cs) cs ds) n b → Built (Choose at c p q Done) a b (joined cs ds)

-- statements that run one after the other
abbrev pub FollowedAreBuilt : Type 0
FollowedAreBuilt = (p q : Steps) (a m b : Work) (cs ds : List Change) → Built p a m cs → Built q m b ds → Built (followed p q) a b (joined cs ds)

-- what was changed can be given back
abbrev pub ChangesFit : Type 0
ChangesFit = (p : Steps) (t y : Work) (cs : List Change) → Built p t y cs → StandsBelow t → AreWide t (targets p) → AllFit y cs

-- and the choices between both parts can have their muxes
abbrev pub ChoicesFit : Type 0
ChoicesFit = (p q : Steps) (t y w n : Work) (cs ds : List Change) → Built p t y cs → w ≡ given_back cs y → Built q w n ds → StandsBelow t → AreWide t (targets p ++ targets q) → AllChoicesFit n (chosen (all_have y cs) cs ds)
