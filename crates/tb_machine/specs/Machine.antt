-- What the machine leaves: the same as the steps of the work that its stack stands for.
use Rattle.std.specs.Prelude.{◌≡◌, ℕ, List, map}
use Rattle.std.specs.List.{All}
use Rattle.tb_machine.specs.declared.node.Node.{Node}
use Rattle.tb_machine.specs.declared.node.Frame.{Frame}
use Rattle.tb_machine.specs.declared.node.Process.{Process}
use Rattle.tb_machine.specs.declared.machine.Stepped.{Stepped}
use Rattle.tb_machine.specs.declared.machine.Stepped.TheVariants as d
use Rattle.tb_machine.specs.declared.machine.Ended.{Ended}
use Rattle.tb_machine.specs.declared.machine.Ended.TheVariants as e
use Rattle.tb_machine.specs.Worlds.{World}
use Rattle.tb_machine.specs.Steps.{Step, Goes, Waits, Finishes, Ran, Pauses, Finished, TooLong, Suspended}
use Rattle.tb_machine.specs.Nodes.{Tree, works, FramesBelow}

-- the process that a stack stands for
abbrev pub suspended : List Node → Tree → Process → Suspended
suspended nodes tree p = record { event = p.event; work = works nodes tree p.stack.items }

-- the processes that a list stands for
abbrev pub all_suspended : List Node → Tree → List Process → List Suspended
all_suspended nodes tree ps = map (suspended nodes tree) ps

abbrev pub AreRan : List Node → Tree → Ended → ℕ → List Process → World → Ran (List Suspended) → Type 0
AreRan nodes tree e.Pauses n ps v (Pauses left qs w) = (n ≡ left) × (all_suspended nodes tree ps ≡ qs) × (v ≡ w)
AreRan nodes tree e.Finished n ps v (Finished w) = v ≡ w
AreRan nodes tree e.TooLong n ps v (TooLong w) = v ≡ w
AreRan nodes tree answer n ps v result = ⊥

-- the numbers in the stacks are below the limit
abbrev pub StackBelow : ℕ → Process → Type 0
StackBelow limit p = FramesBelow limit p.stack.items

abbrev pub StacksBelow : ℕ → List Process → Type 0
StacksBelow limit ps = All (StackBelow limit) ps

-- For proofs alone.

-- the answer, the stack and the world are those of a step
abbrev pub IsStep : List Node → Tree → Stepped → List Frame → World → Step → Type 0
IsStep nodes tree d.Goes stack v (Goes work w) = (works nodes tree stack ≡ work) × (v ≡ w)
IsStep nodes tree (d.Waits x) stack v (Waits y work w) = (x ≡ y) × (works nodes tree stack ≡ work) × (v ≡ w)
IsStep nodes tree d.Finishes stack v (Finishes w) = v ≡ w
IsStep nodes tree answer stack v result = ⊥

abbrev pub IsRan : List Node → Tree → Ended → ℕ → Process → World → Ran Suspended → Type 0
IsRan nodes tree e.Pauses n p v (Pauses left q w) = (n ≡ left) × (suspended nodes tree p ≡ q) × (v ≡ w)
IsRan nodes tree e.Finished n p v (Finished w) = v ≡ w
IsRan nodes tree e.TooLong n p v (TooLong w) = v ≡ w
IsRan nodes tree answer n p v result = ⊥
