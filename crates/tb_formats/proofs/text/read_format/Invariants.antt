use Rattle.std.proofs.Common.{◌≡◌, ◌-◌, ◌≤◌, ◌++◌, drop, length}
use Rattle.std.specs.Prelude.{option_map}
use Rattle.tb_formats.specs.Pieces.{pieces}
use Rattle.tb_formats.proofs.text.read_format.Given as goal

abbrev pub invariant-loop-at : goal.invariant-loop-at
invariant-loop-at l = (l.at ≤ length l.text) × (pieces l.text ≡ option_map (λ ps. l.list.items ++ ps) (pieces (drop l.at l.text)))

abbrev pub decreases-loop-at : goal.decreases-loop-at
decreases-loop-at l = length l.text - l.at
