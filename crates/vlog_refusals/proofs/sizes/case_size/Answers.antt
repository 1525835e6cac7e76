use Rattle.vlog_refusals.proofs.Common.{flat_map, names_of, sense, senses, all_faults, left_nil, right_nil, labels_in}
use Rattle.vlog_refusals.proofs.sizes.case_size.Goals as goal

pub shape_of-requires : goal.shape_of-requires
shape_of-requires c = left_nil (sense (names_of c.args.scope.now) c.args.selector.now).faults (all_faults (senses (names_of c.args.scope.now) (flat_map labels_in c.args.items.now))) c.requires

pub size_with_labels-requires-clause-whole : goal.size_with_labels-requires-clause-whole
size_with_labels-requires-clause-whole c = right_nil (sense (names_of c.args.scope.now) c.args.selector.now).faults (all_faults (senses (names_of c.args.scope.now) (flat_map labels_in c.args.items.now))) c.requires
