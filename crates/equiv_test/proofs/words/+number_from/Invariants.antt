use Rattle.equiv_test.proofs.words.+number_from.Given as goal

abbrev pub decreases-number_from : goal.decreases-number_from
decreases-number_from l = l.width
