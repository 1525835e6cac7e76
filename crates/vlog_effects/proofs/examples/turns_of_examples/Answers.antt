use Rattle.vlog_effects.proofs.Common.{sense_name, sense_number, value, width_of, is_signed_of, is_constant, a, b, i, names, named}
use Rattle.vlog_effects.proofs.Variants.{steps-case}
use Rattle.vlog_effects.proofs.Running.{steps-blocking}
use Rattle.vlog_effects.proofs.Reversal.{loop-reverses}
use Rattle.vlog_effects.proofs.Folds.{parts-name, dont_care-number, steps-item}
use Rattle.vlog_effects.proofs.examples.turns_of_examples.Goals as goal

pub returns-clause-reversal : goal.returns-clause-reversal
returns-clause-reversal c = loop-reverses

pub returns-clause-dont_care : goal.returns-clause-dont_care
returns-clause-dont_care c = simp (steps-case, steps-item, steps-blocking, parts-name, sense_number names, dont_care-number, sense_name names (named a 1), sense_name names (named b 1), sense_name names (named i 1), value, width_of, is_signed_of, is_constant)

pub returns-clause-other : goal.returns-clause-other
returns-clause-other c = simp (steps-case, steps-item, steps-blocking, parts-name, sense_number names, dont_care-number, sense_name names (named a 1), sense_name names (named b 1), sense_name names (named i 1), value, width_of, is_signed_of, is_constant)
