use Rattle.vlog_effects.proofs.Common.{own, sense_name, sense_number, value, width_of, is_signed_of, bound_of, select_base, select_width, a, b, i, w, names, named}
use Rattle.vlog_effects.proofs.Variants.{steps-block}
use Rattle.vlog_effects.proofs.Running.{steps-blocking, steps-nonblocking}
use Rattle.vlog_effects.proofs.Folds.{parts-name, parts-bit, parts-range, parts-indexed, parts-concatenation}
use Rattle.vlog_effects.proofs.examples.assignments_of_examples.Goals as goal

pub returns-clause-seen : goal.returns-clause-seen
returns-clause-seen c = simp (steps-block, steps-blocking, parts-name, sense_name names (named a 1), sense_name names (named b 1), value, width_of, is_signed_of)

pub returns-clause-not_seen : goal.returns-clause-not_seen
returns-clause-not_seen c = simp (steps-block, steps-blocking, steps-nonblocking, parts-name, sense_name names (named a 1), sense_name names (named b 1), value, width_of, is_signed_of)

pub returns-clause-swap : goal.returns-clause-swap
returns-clause-swap c = simp (steps-block, steps-nonblocking, parts-name, sense_name names (named a 1), sense_name names (named b 1), value, width_of, is_signed_of)

pub returns-clause-last : goal.returns-clause-last
returns-clause-last c = simp (steps-block, steps-nonblocking, parts-name, sense_name names (named a 1), sense_name names (named b 1), value, width_of, is_signed_of)

pub returns-clause-high : goal.returns-clause-high
returns-clause-high c = simp (steps-blocking, parts-concatenation, parts-name, sense_name names (named w 1), value, width_of, is_signed_of)

pub returns-clause-left : goal.returns-clause-left
returns-clause-left c = simp (steps-blocking, parts-concatenation, parts-name, sense_name names (named w 1), value, width_of, is_signed_of)

pub returns-clause-index : goal.returns-clause-index
returns-clause-index c = simp (steps-blocking, parts-concatenation, parts-bit, parts-name, sense_name names (named i 1), sense_name names (named w 1), value, width_of, is_signed_of, own, select_base)

pub returns-clause-part : goal.returns-clause-part
returns-clause-part c = simp (steps-blocking, parts-range, sense_number names, sense_name names (named a 1), value, width_of, is_signed_of, bound_of, select_base, select_width)

pub returns-clause-end : goal.returns-clause-end
returns-clause-end c = simp (steps-blocking, parts-indexed, sense_number names, sense_name names (named b 1), sense_name names (named i 1), value, width_of, is_signed_of, own, bound_of, select_base, select_width)
