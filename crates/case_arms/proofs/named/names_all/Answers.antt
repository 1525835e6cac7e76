use Rattle.case_arms.proofs.Common.{◌∷◌, arith, rules, flat_map, names_of, wrong, labels_in, common_within, labels_within}
use Rattle.vlog_meaning.proofs.Blanks.{left_nil, right_nil}
use Rattle.case_arms.proofs.Values.{names_are, names_many}
use Rattle.case_arms.proofs.named.names_all.Goals as goal

pub shape_of-requires : goal.shape_of-requires
shape_of-requires c = left_nil _ _ (left_nil (wrong (names_of c.args.scope.now) c.args.selector.now) (flat_map (wrong (names_of c.args.scope.now)) (flat_map labels_in c.args.items.now)) c.requires)

pub add_all_named-requires-clause-whole : goal.add_all_named-requires-clause-whole
add_all_named-requires-clause-whole c = right_nil (wrong (names_of c.args.scope.now) c.args.selector.now) (flat_map (wrong (names_of c.args.scope.now)) (flat_map labels_in c.args.items.now)) c.requires

pub add_all_named-requires-clause-within : goal.add_all_named-requires-clause-within
add_all_named-requires-clause-within c =
    let names = names_of c.args.scope.now in
    labels_within names c.case_size-size.result c.args.items.now (common_within names c.case_size-size.result (c.args.selector.now ∷ flat_map labels_in c.args.items.now) c.case_size-size.ensures.size c.case_size-size.ensures.sized).1

pub returns-then-bits-gt-MOST_BITS : goal.returns-then-bits-gt-MOST_BITS
returns-then-bits-gt-MOST_BITS c =
    names_many (names_of c.args.scope.now) c.args.kind c.args.selector.now c.args.items.now c.shape_of.result c.case_size-size.result c.selector_bits-bits.result c.shape_of.ensures.shape c.case_size-size.ensures.size c.selector_bits-bits.ensures (omega arith)

pub returns : goal.returns
returns c =
    names_are (names_of c.args.scope.now) c.args.kind c.args.selector.now c.args.items.now c.shape_of.result c.case_size-size.result c.selector_bits-bits.result c.shape_of.ensures.shape c.case_size-size.ensures.size c.selector_bits-bits.ensures
    _ c.new-values.result.items c.has_each.result (omega arith) (search rules) c.in_ok-add_all_named.ensures (rw c.as_slice.ensures.value at c.has_each.ensures)
