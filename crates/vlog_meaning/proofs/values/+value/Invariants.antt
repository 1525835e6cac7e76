use Rattle.vlog_meaning.proofs.Common.{◌≡◌, ◌+◌, ◌*◌, ◌<◌, ◌^◌, drop, take, names_of, store_of, senses, total_width, joined}
use Rattle.vlog_meaning.proofs.values.+value.Given as goal

abbrev pub decreases-shape_of : goal.decreases-shape_of
decreases-shape_of l = 4 * goal.size-shape_of l

abbrev pub decreases-total_width : goal.decreases-total_width
decreases-total_width l = 4 * goal.size-total_width l + 3

abbrev pub decreases-call_shape : goal.decreases-call_shape
decreases-call_shape l = 4 * goal.size-call_shape l + 3

abbrev pub decreases-value_of : goal.decreases-value_of
decreases-value_of l = 4 * goal.size-value_of l

abbrev pub decreases-joined : goal.decreases-joined
decreases-joined l = 4 * goal.size-joined l + 3

abbrev pub decreases-call_value : goal.decreases-call_value
decreases-call_value l = 4 * goal.size-call_value l + 3

abbrev pub decreases-own_of : goal.decreases-own_of
decreases-own_of l = 4 * goal.size-own_of l + 1

abbrev pub decreases-own_value : goal.decreases-own_value
decreases-own_value l = 4 * goal.size-own_value l + 2

abbrev pub decreases-index_of : goal.decreases-index_of
decreases-index_of l = 4 * goal.size-index_of l + 2

abbrev pub decreases-bound_of : goal.decreases-bound_of
decreases-bound_of l = 4 * goal.size-bound_of l + 3

abbrev pub decreases-count_of : goal.decreases-count_of
decreases-count_of l = 4 * goal.size-count_of l + 2

abbrev pub invariant-total_width-loop-part : goal.invariant-total_width-loop-part
invariant-total_width-loop-part l = l.total + total_width (senses (names_of l.scope) (drop l.part-index l.parts)) ≡ total_width (senses (names_of l.scope) l.parts)

abbrev pub invariant-joined-loop-part : goal.invariant-joined-loop-part
invariant-joined-loop-part l = record {
  same : l.value * 2 ^ total_width (senses (names_of l.scope) (drop l.part-index l.parts)) + joined (store_of l.store) (senses (names_of l.scope) (drop l.part-index l.parts)) ≡ joined (store_of l.store) (senses (names_of l.scope) l.parts);
  fits : l.value < 2 ^ total_width (senses (names_of l.scope) (take l.part-index l.parts));
  wide : l.width ≡ total_width (senses (names_of l.scope) (take l.part-index l.parts));
}
