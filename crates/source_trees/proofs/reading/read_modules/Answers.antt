use Rattle.source_trees.proofs.Common.{length, map, sym, ap, ◌∙◌, length-map, bare, max_tokens}
use Rattle.source_trees.proofs.Steps.{given_length}
use Rattle.source_trees.proofs.reading.read_modules.Goals as goal

pub parse_files-requires-clause-each : goal.parse_files-requires-clause-each
parse_files-requires-clause-each c =
    let count = given_length 0 c.args.files.now max_tokens (map (λ ts. map bare ts.items) c.in_ok-given.given.items) c.in_ok-given.ensures.given in
    ap length c.deref.ensures.value ∙ sym (length-map c.in_ok-given.given.items (λ ts. map bare ts.items)) ∙ count
