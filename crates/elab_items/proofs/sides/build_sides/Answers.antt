use Rattle.elab_items.proofs.Common.{names_of, flat_of}
use Rattle.elab_items.proofs.Building.{signals_at}
use Rattle.elab_items.proofs.sides.build_sides.Goals as goal

pub build_between-requires-clause-lefts : goal.build_between-requires-clause-lefts
build_between-requires-clause-lefts c = signals_at (flat_of c.args.flat.now).places c.args.builder.now c.args.outside (names_of c.in-Some.left_scope.now) c.in-Some.ensures c.requires

pub build_between-requires-clause-rights : goal.build_between-requires-clause-rights
build_between-requires-clause-rights c = signals_at (flat_of c.args.flat.now).places c.args.builder.now c.args.inside (names_of c.in-Some-scope_at.right_scope.now) c.in-Some-scope_at.ensures c.requires
