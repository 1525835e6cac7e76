use Rattle.process_cells.proofs.Common.{◌≡◌, length, with_joints, joints_of}
use Rattle.process_cells.proofs.joints.join_bits.Given as goal

abbrev pub invariant-loop-owns : goal.invariant-loop-owns
invariant-loop-owns l = with_joints l.builder (joints_of l.owns l.lasts) ≡ with_joints l.initial.builder (joints_of l.initial.owns l.initial.lasts)

abbrev pub decreases-loop-owns : goal.decreases-loop-owns
decreases-loop-owns l = length l.owns
