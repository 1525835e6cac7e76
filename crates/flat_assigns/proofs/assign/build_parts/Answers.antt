use Rattle.flat_assigns.proofs.Common.{◌≡◌, ◌+◌, [], length, sym, subst, Shape, names_of, refusals, made, IsShort, slices_of, all_places, right_cells, right_shape}
use Rattle.flat_assigns.proofs.Adding.{own_between, parts_built, signals_between}
use Rattle.flat_assigns.proofs.Laying.{value_laid}
use Rattle.flat_assigns.proofs.Scans.{all_same}
use Rattle.flat_assigns.proofs.Shapes.{whole_from}
use Rattle.flat_assigns.proofs.assign.build_parts.Goals as goal

pub right_shape-context-requires-clause-whole : goal.right_shape-context-requires-clause-whole
right_shape-context-requires-clause-whole c = whole_from (names_of c.args.scope.now) c.args.right.now (right_shape (names_of c.args.scope.now) c.args.right.now c.args.width) c.requires.accepted

pub join_parts-requires-clause-own : goal.join_parts-requires-clause-own
join_parts-requires-clause-own c = own_between c.args.builder.now c.build_expr.new.builder c.requires.ready c.in-Ok.ensures.built.grows

pub join_parts-requires-clause-inside : goal.join_parts-requires-clause-inside
join_parts-requires-clause-inside c = all_same c.args.builder.now c.build_expr.new.builder c.args.slices.now (signals_between c.args.builder.now c.build_expr.new.builder c.in-Ok.ensures.built.grows) c.requires.inside

pub returns-in_ok-join_parts-in-Ok-clause-built : goal.returns-in_ok-join_parts-in-Ok-clause-built
returns-in_ok-join_parts-in-Ok-clause-built c =
    parts_built (names_of c.args.scope.now) c.args.right.now c.args.builder.now c.build_expr.new.builder c.join_parts.new.builder (all_places (slices_of c.args.slices.now)) c.in-Ok.bits c.as_slice.result.now c.right_shape-context.result c.args.width c.requires.ready c.in-Ok.ensures.built c.right_shape-context.ensures.shape c.as_slice.ensures c.in_ok-join_parts-in-Ok.ensures

pub returns-in-Err-clause-limit : goal.returns-in-Err-clause-limit
returns-in-Err-clause-limit c =
    let names = names_of c.args.scope.now in
    let shape = c.right_shape-context.ensures.shape in
    let none = subst (λ (s : Shape). refusals names c.args.right.now s ≡ []) (sym shape) c.requires.accepted in
    let short = subst (λ (s : Shape). IsShort (length c.args.builder.now.cells + length (made names c.args.right.now s)) c.in-Err.error) shape (c.in-Err.ensures.short none) in
    c.of.ensures (length c.args.builder.now.cells + length (right_cells names c.args.right.now c.args.width)) short

pub returns-in_ok-join_parts-in-Ok-clause-laid : goal.returns-in_ok-join_parts-in-Ok-clause-laid
returns-in_ok-join_parts-in-Ok-clause-laid c =
    value_laid (names_of c.args.scope.now) c.args.right.now c.args.builder.now c.build_expr.new.builder c.join_parts.new.builder (all_places (slices_of c.args.slices.now)) c.in-Ok.bits c.as_slice.result.now c.right_shape-context.result c.args.width c.in-Ok.ensures.laid c.right_shape-context.ensures.shape c.as_slice.ensures c.in_ok-join_parts-in-Ok.ensures
