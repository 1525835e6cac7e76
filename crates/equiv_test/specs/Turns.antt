-- What a turn of the search of a pair's clauses comes to.
use Rattle.std.specs.Prelude.{◌≡◌, ℕ, ◌+◌, length}
use Rattle.netlist_core.specs.Checked.{Plan}
use Rattle.sat_solver.specs.Found.{Hunt, IsRunning, IsContinued}
use Rattle.equiv_test.specs.Verdicts.{Tells}
use Rattle.equiv_test.specs.declared.turning.Turned.{Turned}
use Rattle.equiv_test.specs.declared.turning.Turned.TheVariants.{Unfinished, Finished, OutOfMemory}

-- For proofs alone.

-- the search goes on from the one before, with at most so many lemmas more
abbrev pub CanGoOn : Hunt → ℕ → Hunt → Type 0
CanGoOn before most after = IsRunning after × IsContinued before after most

abbrev pub Turns : Plan → Plan → ℕ → Hunt → ℕ → Turned → Type 0
Turns a b limit before most (Unfinished after) = CanGoOn before most after × (length after.log.lemmas ≡ length before.log.lemmas + most)
Turns a b limit before most (Finished verdict) = Tells a b limit verdict
Turns a b limit before most (OutOfMemory after) = CanGoOn before most after
