use Rattle.equiv_test.proofs.Common.{◌∙◌, some-word, word-parts}
use Rattle.equiv_test.proofs.words.word_from.Goals as goal

pub unwrap-requires : goal.unwrap-requires
unwrap-requires c = some-word c.new.result _ _ (record { some = c.requires.wide.0; narrow = c.requires.wide.1; fits = c.number_from.ensures.fits }) c.new.ensures

pub returns-clause-width : goal.returns-clause-width
returns-clause-width c = (word-parts c.new.result c.unwrap.result _ _ c.unwrap.ensures c.new.ensures).0

pub returns-clause-bits : goal.returns-clause-bits
returns-clause-bits c = (word-parts c.new.result c.unwrap.result _ _ c.unwrap.ensures c.new.ensures).1 ∙ c.number_from.ensures.value
