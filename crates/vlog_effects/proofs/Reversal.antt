-- The loop of the examples, turn by turn.
use Rattle.vlog_effects.proofs.Common.{◌≡◌, ℕ, true, [], Some, ◌∙◌, ap, out-LeftSide, Names, sense_name, sense_number, sense_bit_select, sense_binary, own, value, width_of, is_signed_of, constant_of}
use Rattle.vlog_effects.proofs.Common.{constant_faults, select_base, Done, Loop, followed, turn_names, name_alone, step_flaws, turns, loop_steps, steps_of, k, names, place, named, start, condition}
use Rattle.vlog_effects.proofs.Common.{turn, reversal, results_of, LoopReverses}
use Rattle.vlog_meaning.specs.Answers.{least}
use Rattle.vlog_effects.specs.Examples.{step}
use Rattle.vlog_effects.proofs.Loops.{turns-end, turns-more}
use Rattle.vlog_effects.proofs.Variants.{steps-loop}
use Rattle.vlog_effects.proofs.Running.{steps-blocking}
use Rattle.vlog_effects.proofs.Folds.{parts-bit, out-name}

abbrev loop : Loop
loop = record { place = place 1; name = named k 1; width = 32; is_signed = true; condition = condition; step = step }

abbrev here : ℕ → Names
here v = turn_names loop names v

same-name : (v : ℕ) → step_flaws loop (here v) (name_alone (out-LeftSide step.left)) ≡ []
same-name v = ap (λ x. step_flaws loop (here v) (name_alone x)) (out-name (named k 1))

begun : loop_steps (place 1) start condition step (steps_of turn) names (name_alone (out-LeftSide start.left)) ≡ turns 4096 loop (steps_of turn) names 0
unfolding least
begun = ap (λ x. loop_steps (place 1) start condition step (steps_of turn) names (name_alone x)) (out-name (named k 1)) ∙ simp (sense_number names, constant_of, constant_faults)

holds-0 : constant_of (here 0) 1 condition ≡ Some 1
unfolding least
holds-0 = simp (sense_binary (here 0), sense_name (here 0) (named k 1), sense_number (here 0), constant_of, constant_faults)

holds-1 : constant_of (here 1) 1 condition ≡ Some 1
unfolding least
holds-1 = simp (sense_binary (here 1), sense_name (here 1) (named k 1), sense_number (here 1), constant_of, constant_faults)

holds-2 : constant_of (here 2) 1 condition ≡ Some 1
unfolding least
holds-2 = simp (sense_binary (here 2), sense_name (here 2) (named k 1), sense_number (here 2), constant_of, constant_faults)

holds-3 : constant_of (here 3) 1 condition ≡ Some 1
unfolding least
holds-3 = simp (sense_binary (here 3), sense_name (here 3) (named k 1), sense_number (here 3), constant_of, constant_faults)

holds-4 : constant_of (here 4) 1 condition ≡ Some 0
unfolding least
holds-4 = simp (sense_binary (here 4), sense_name (here 4) (named k 1), sense_number (here 4), constant_of, constant_faults)

next-0 : constant_of (here 0) 32 step.value ≡ Some 1
unfolding least
next-0 = simp (sense_binary (here 0), sense_name (here 0) (named k 1), sense_number (here 0), constant_of, constant_faults)

next-1 : constant_of (here 1) 32 step.value ≡ Some 2
unfolding least
next-1 = simp (sense_binary (here 1), sense_name (here 1) (named k 1), sense_number (here 1), constant_of, constant_faults)

next-2 : constant_of (here 2) 32 step.value ≡ Some 3
unfolding least
next-2 = simp (sense_binary (here 2), sense_name (here 2) (named k 1), sense_number (here 2), constant_of, constant_faults)

next-3 : constant_of (here 3) 32 step.value ≡ Some 4
unfolding least
next-3 = simp (sense_binary (here 3), sense_name (here 3) (named k 1), sense_number (here 3), constant_of, constant_faults)

from-4 : turns 4092 loop (steps_of turn) names 4 ≡ Done
from-4 = turns-end 4092 loop (steps_of turn) names 4 holds-4

from-3 : turns 4093 loop (steps_of turn) names 3 ≡ followed (steps_of turn (here 3)) (Done)
from-3 = turns-more 4092 loop (steps_of turn) names 3 0 4 holds-3 (same-name 3) next-3 ∙ ap (followed (steps_of turn (here 3))) from-4

from-2 : turns 4094 loop (steps_of turn) names 2 ≡ followed (steps_of turn (here 2)) (followed (steps_of turn (here 3)) (Done))
from-2 = turns-more 4093 loop (steps_of turn) names 2 0 3 holds-2 (same-name 2) next-2 ∙ ap (followed (steps_of turn (here 2))) from-3

from-1 : turns 4095 loop (steps_of turn) names 1 ≡ followed (steps_of turn (here 1)) (followed (steps_of turn (here 2)) (followed (steps_of turn (here 3)) (Done)))
from-1 = turns-more 4094 loop (steps_of turn) names 1 0 2 holds-1 (same-name 1) next-1 ∙ ap (followed (steps_of turn (here 1))) from-2

from-0 : turns 4096 loop (steps_of turn) names 0 ≡ followed (steps_of turn (here 0)) (followed (steps_of turn (here 1)) (followed (steps_of turn (here 2)) (followed (steps_of turn (here 3)) (Done))))
from-0 = turns-more 4095 loop (steps_of turn) names 0 0 1 holds-0 (same-name 0) next-0 ∙ ap (followed (steps_of turn (here 0))) from-1

unrolled : steps_of reversal names ≡ followed (steps_of turn (here 0)) (followed (steps_of turn (here 1)) (followed (steps_of turn (here 2)) (followed (steps_of turn (here 3)) (Done))))
unrolled = steps-loop (place 1) start condition step turn names ∙ begun ∙ from-0

pub loop-reverses : LoopReverses
loop-reverses = ap results_of unrolled ∙ simp (steps-blocking, parts-bit, sense_bit_select (here 0), sense_binary (here 0), sense_number (here 0), sense_name (here 0) (named k 1), sense_bit_select (here 1), sense_binary (here 1), sense_number (here 1), sense_name (here 1) (named k 1), sense_bit_select (here 2), sense_binary (here 2), sense_number (here 2), sense_name (here 2) (named k 1), sense_bit_select (here 3), sense_binary (here 3), sense_number (here 3), sense_name (here 3) (named k 1), value, width_of, is_signed_of, own, select_base)
