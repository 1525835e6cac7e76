use Rattle.mcy_top.proofs.Exacting.{exact_book, exact_files, exact_words, refused_not_made, refused_once}
use Rattle.mcy_top.proofs.laws.refusals_are_exact.Goals as goal

pub returns-clause-words : goal.returns-clause-words
returns-clause-words c = exact_words

pub returns-clause-files : goal.returns-clause-files
returns-clause-files c = exact_files

pub returns-clause-book : goal.returns-clause-book
returns-clause-book c = exact_book

pub returns-clause-one_cause : goal.returns-clause-one_cause
returns-clause-one_cause c = refused_once

pub returns-clause-no_campaign : goal.returns-clause-no_campaign
returns-clause-no_campaign c = refused_not_made
