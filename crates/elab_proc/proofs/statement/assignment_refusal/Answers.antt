use Rattle.elab_proc.proofs.Common.{◌∙◌, ◌++◌, map, ap, flat_map, Expr, least, names_of, parts_of, Wrong, same_form, sides_faults, part_refusals, kind_refusals}
use Rattle.elab_proc.proofs.statement.assignment_refusal.Goals as goal

pub returns : goal.returns
returns c =
    let names = names_of c.args.scope.now in
    let a = c.args.assignment.now in
    let is = c.sides_fault.ensures ∙ ap (λ (l : Expr). least (sides_faults names l c.get.result.now)) c.in_ok-left.ensures ∙ ap (λ (v : Expr). least (sides_faults names (same_form a.left) v)) c.get.ensures in
    let parts = flat_map (part_refusals names c.args.walk.now.written.now) (parts_of a.left) in
    let kind = kind_refusals c.args.walk.now.is_combinational c.args.is_blocking a.span in
    c.earlier-2.ensures (map Wrong (sides_faults names (same_form a.left) a.value)) (parts ++ kind) (c.wrong-sides.ensures (sides_faults names (same_form a.left) a.value) is) (c.earlier.ensures parts kind c.names_refusal-names.ensures c.kind_refusal-kind.ensures)
