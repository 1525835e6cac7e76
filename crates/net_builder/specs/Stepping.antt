-- How the steps of nets are laid into a table, net by net.
use Rattle.std.specs.Prelude.{ℕ, ◌/◌, ◌%◌, List, [], ◌∷◌, nat_eq, slice_index_or, if◌then◌else◌}
use Rattle.netlist_core.specs.declared.bit.Bit.{Bit}
use Rattle.netlist_core.specs.declared.bit.Bit.TheVariants.{Fixed, Net}
use Rattle.net_builder.specs.declared.builder.Joint.{Joint}
use Rattle.net_builder.specs.declared.steps.Step.{Step}
use Rattle.net_builder.specs.declared.steps.Step.TheVariants.{Stays, Constant, On}

-- For proofs alone.

-- each net stays
abbrev pub no_steps : ℕ → Step
no_steps n = Stays

-- a table as a function of the net
abbrev pub next_in : List Step → ℕ → Step
next_in table n = slice_index_or table n Stays

abbrev pub with_step : ℕ → Step → (ℕ → Step) → ℕ → Step
with_step net step f n = if nat_eq n net then step else f n

abbrev pub after_start : List Bit → ℕ → (ℕ → Step) → ℕ → Step
after_start [] v f = f
after_start (Fixed b ∷ more) v f = after_start more (v / 2) f
after_start (Net m ∷ more) v f = after_start more (v / 2) (with_step m (Constant (nat_eq (v % 2) 1)) f)

abbrev pub after_starts : List (List Bit) → List ℕ → (ℕ → Step) → ℕ → Step
after_starts [] vs f = f
after_starts (bits ∷ more) [] f = f
after_starts (bits ∷ more) (v ∷ vs) f = after_starts more vs (after_start bits v f)

-- these nets stay
abbrev pub after_kept : List Bit → (ℕ → Step) → ℕ → Step
after_kept [] f = f
after_kept (Fixed b ∷ more) f = after_kept more f
after_kept (Net m ∷ more) f = after_kept more (with_step m Stays f)

abbrev pub after_all_kept : List (List Bit) → (ℕ → Step) → ℕ → Step
after_all_kept [] f = f
after_all_kept (bits ∷ more) f = after_all_kept more (after_kept bits f)

-- what a joint makes of a net
abbrev pub joined_step : Bit → Step
joined_step (Fixed v) = Constant v
joined_step (Net m) = On m

-- the joints from the last on, so that the first one counts
abbrev pub after_joints : List Joint → (ℕ → Step) → ℕ → Step
after_joints [] f = f
after_joints (j ∷ more) f = with_step j.net (joined_step j.bit) (after_joints more f)
