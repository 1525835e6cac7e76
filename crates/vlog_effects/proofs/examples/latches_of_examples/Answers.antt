use Rattle.vlog_effects.proofs.Common.{own, sense_name, sense_number, sense_part_select, sense_unary, sense_binary, value, width_of, is_signed_of, is_constant, reads, bound_of, select_base}
use Rattle.vlog_effects.proofs.Common.{select_width, a, b, i, w, y, names, named}
use Rattle.vlog_effects.proofs.Variants.{steps-block, steps-conditional, steps-case}
use Rattle.vlog_effects.proofs.Running.{steps-blocking}
use Rattle.vlog_effects.proofs.Folds.{parts-name, parts-bit, parts-range, dont_care-number, keeps-name, keeps-part, keeps-unary, keeps-binary, steps-item}
use Rattle.vlog_effects.proofs.examples.latches_of_examples.Goals as goal

pub returns-clause-all_paths : goal.returns-clause-all_paths
returns-clause-all_paths c = simp (steps-conditional, steps-blocking, parts-name, sense_name names (named a 1), sense_name names (named b 1), sense_name names (named w 1), value, width_of, is_signed_of, reads)

pub returns-clause-path : goal.returns-clause-path
returns-clause-path c = simp (steps-conditional, steps-blocking, parts-name, sense_name names (named a 1), sense_name names (named b 1), value, width_of, is_signed_of, reads)

pub returns-clause-before : goal.returns-clause-before
returns-clause-before c = simp (steps-block, steps-conditional, steps-blocking, parts-name, sense_name names (named a 1), sense_name names (named b 1), sense_name names (named w 1), value, width_of, is_signed_of, reads)

pub returns-clause-one_bit : goal.returns-clause-one_bit
returns-clause-one_bit c = simp (steps-conditional, steps-blocking, parts-name, parts-range, sense_number names, sense_name names (named a 1), sense_name names (named b 1), value, width_of, is_signed_of, reads, bound_of, select_base, select_width)

pub returns-clause-variable_index : goal.returns-clause-variable_index
returns-clause-variable_index c = simp (steps-blocking, parts-bit, sense_name names (named b 1), sense_name names (named i 1), value, width_of, is_signed_of, reads, is_constant, own, select_base)

pub returns-clause-early : goal.returns-clause-early
returns-clause-early c = simp (steps-block, steps-blocking, parts-name, sense_name names (named a 1), sense_name names (named y 1), value, width_of, is_signed_of, reads)

pub returns-clause-least_place : goal.returns-clause-least_place
returns-clause-least_place c = simp (steps-conditional, steps-blocking, parts-name, sense_name names (named a 1), sense_name names (named b 1), sense_name names (named w 1), value, width_of, is_signed_of, reads)

pub returns-clause-all_values : goal.returns-clause-all_values
returns-clause-all_values c = simp (steps-case, steps-item, steps-blocking, parts-name, sense_number names, dont_care-number, keeps-name, sense_name names (named a 1), sense_name names (named b 1), sense_name names (named i 1), value, width_of, is_signed_of, reads, is_constant)

pub returns-clause-one_value : goal.returns-clause-one_value
returns-clause-one_value c = simp (steps-case, steps-item, steps-blocking, parts-name, sense_number names, dont_care-number, keeps-name, sense_name names (named a 1), sense_name names (named b 1), sense_name names (named i 1), value, width_of, is_signed_of, reads, is_constant)

pub returns-clause-inverted : goal.returns-clause-inverted
returns-clause-inverted c = simp (steps-case, steps-item, steps-blocking, parts-name, sense_number names, dont_care-number, keeps-unary, sense_unary names, sense_name names (named a 1), sense_name names (named b 1), sense_name names (named i 1), value, width_of, is_signed_of, reads, is_constant)

pub returns-clause-bitwise : goal.returns-clause-bitwise
returns-clause-bitwise c = simp (steps-case, steps-item, steps-blocking, parts-name, sense_number names, dont_care-number, keeps-name, keeps-part, keeps-binary, sense_binary names, sense_part_select names, sense_name names (named a 1), sense_name names (named b 1), sense_name names (named i 1), value, width_of, is_signed_of, reads, is_constant)
