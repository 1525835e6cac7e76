use Rattle.vlog_parse.proofs.Common.{◌≡◌, List, [], Option, Some, None, sym, ap, subst, ◌∙◌, Span, Step, Stop, Classed, IsReading, IsText, Trees, steps_of, modules, classes, first_deep, outermost, walked, IsFault}
use Rattle.vlog_expand.specs.declared.error.ParseError.TheVariants as e
use Rattle.vlog_parse.proofs.Parses.{are_parsed, is_too_deep}
use Rattle.vlog_parse.proofs.parser.parse.Goals as goal

pub returns-in-Some-clause-faults : goal.returns-in-Some-clause-faults
returns-in-Some-clause-faults c =
    let tokens = c.args.tokens.now in
    let reading = c.in_ok-steps.field-0 in
    let deep_in = λ (ss : List Step). first_deep 0 (walked outermost [] ss) in
    let classed : c.as_slice.result.now ≡ classes tokens = c.as_slice.ensures.value ∙ c.in_ok-classed.ensures in
    let is_reading = subst (λ (ts : List Classed). IsReading ts reading.steps.items reading.stop) classed c.in_ok-steps.ensures in
    let steps : c.as_slice-2.result.now ≡ reading.steps.items = (cc) in
    let found : Some c.in-Some.at ≡ deep_in reading.steps.items = sym c.in-Some.is ∙ c.in_ok-at.ensures ∙ ap deep_in steps in
    subst (λ (s : Span). IsFault tokens c.args.end (e.TooDeep s)) (sym c.place.ensures) (is_too_deep tokens c.args.end reading.steps.items reading.stop c.in-Some.at is_reading found)

pub returns-clause-trees : goal.returns-clause-trees
returns-clause-trees c =
    let tokens = c.args.tokens.now in
    let reading = c.in_ok-steps.field-0 in
    let ms = c.in_ok-build_modules-in-None.field-0.items in
    let deep_in = λ (ss : List Step). first_deep 0 (walked outermost [] ss) in
    let classed : c.as_slice.result.now ≡ classes tokens = c.as_slice.ensures.value ∙ c.in_ok-classed.ensures in
    let is_reading = subst (λ (ts : List Classed). IsReading ts reading.steps.items reading.stop) classed c.in_ok-steps.ensures in
    let ended : reading.stop ≡ None = (cc) in
    let whole = subst (λ (s : Option Stop). IsReading (classes tokens) reading.steps.items s) ended is_reading in
    let steps : c.as_slice-2.result.now ≡ reading.steps.items = (cc) in
    let last : c.as_slice-in-None.result.now ≡ reading.steps.items = (cc) in
    let shallow : c.in_ok-at.field-0 ≡ None = (cc) in
    let none : None ≡ deep_in reading.steps.items = sym shallow ∙ c.in_ok-at.ensures ∙ ap deep_in steps in
    are_parsed tokens reading.steps.items ms whole none (subst (λ (ss : List Step). (text : Trees) → IsText text → steps_of text ≡ ss → ms ≡ modules tokens text) last c.in_ok-build_modules-in-None.ensures)
