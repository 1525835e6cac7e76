use Rattle.tag_script.proofs.Common.{sym, subst, ap, ◌∙◌, NeedsBelow, ask_told}
use Rattle.tag_script.proofs.Below.{script_needs}
use Rattle.tag_script.proofs.asking.ask.Goals as goal

pub returns-clause-below : goal.returns-clause-below
returns-clause-below c = λ tests tags fits.
    subst (NeedsBelow tests) (sym (c.ask_told.ensures ∙ ap ask_told c.tags_of.ensures)) (script_needs tests tags c.args.expect.now c.args.results.now c.args.script.now fits)
