-- The latch of a process, from what its statements assign.
use Rattle.std.specs.Prelude.{List, Option, None, map, if◌then◌else◌}
use Rattle.vlog_effects.specs.Latches.{Target, latches, first_of, latch_of}
use Rattle.vlog_effects.specs.Steps.{Steps}
use Rattle.process_latches.specs.declared.marks.Write.{Write}
use Rattle.process_latches.specs.Sound.{has_stop}
use Rattle.process_latches.specs.Writes.{target_of}

-- the latch of steps that are sound: none is looked for where a loop, a selector or a label is refused
abbrev pub latch_in : Steps → Option Target
latch_in s = if has_stop s then None else latch_of s

-- For proofs alone.

-- the latch among some of the variables that steps assign
abbrev pub first_latch : Steps → List Write → Option Target
first_latch s ws = first_of (latches s (map target_of ws))
