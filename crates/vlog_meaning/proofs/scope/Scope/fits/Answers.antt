use Rattle.vlog_meaning.proofs.Common.{◌∙◌, sym, rules, tests, fits_word}
use Rattle.std.specs.BTreeMap.{values}
use Rattle.std.proofs.lemmas.Iterator.Consumers.{YieldsList-from_rest}
use Rattle.std.proofs.lemmas.Iterator.Search.{all_from_yields_List}
use Rattle.vlog_meaning.proofs.Lookups.{all_fit, all_values}
use Rattle.vlog_meaning.proofs.scope.Scope.fits.Goals as goal

pub returns-clause-each : goal.returns-clause-each
returns-clause-each c = rw (← c.self.view_is) (all_from_yields_List (fits_word c.args.store.now) _ _ _ c.all.ensures.ran (YieldsList-from_rest (values c.self.inside.names) c.values.ensures.rest) (λ x b q k. search (rules, tests)) ∙ all_values c.args.store.now c.self.inside.names.entries)

pub returns-clause-fits : goal.returns-clause-fits
returns-clause-fits c = λ t. all_fit c.args.store.now c.args.self.now (sym (returns-clause-each c) ∙ t)
