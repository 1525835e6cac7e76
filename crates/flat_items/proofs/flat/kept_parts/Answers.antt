use Rattle.flat_items.proofs.Common.{List, ap, ◌∙◌, names_of, Step, opened_of, kept_names}
use Rattle.flat_items.proofs.flat.kept_parts.Goals as goal

pub returns-clause-names : goal.returns-clause-names
returns-clause-names c =
    let parts = c.into_parts-own in
    c.kept_scope.ensures ∙ ap (λ (steps : List Step). kept_names steps (names_of parts.result.scope)) (c.as_slice.ensures.value ∙ parts.ensures.steps) ∙ ap (kept_names (opened_of c.args.child).steps) parts.ensures.names
