use Rattle.cycle_sim.proofs.Common.{◌%◌, ◌^◌, [], ◌∷◌, arith}
use Rattle.cycle_sim.proofs.Gates.{item-readable, one-item, two-items, three-items, shape-is, number-is}
use Rattle.cycle_sim.proofs.computing.whole_number.Goals as goal

pub of_one-requires-clause-first : goal.of_one-requires-clause-first
of_one-requires-clause-first c = item-readable c.args.table.now c.args.gate.now.ports c.as_slice.result.now 0 c.only-item.result c.requires.readable c.as_slice.ensures (omega (arith, c.in-len1.len_at_least)) c.only-item.is

pub of_one-requires-clause-shape : goal.of_one-requires-clause-shape
of_one-requires-clause-shape c = shape-is c.args.gate.now (c.only-item.result ∷ []) (one-item c.args.gate.now.ports c.as_slice.result.now c.only-item.result c.as_slice.ensures (omega (arith, c.in-len1.len_at_least, c.in-len1.len_below)) c.only-item.is) c.requires.shape

pub returns-in-len1 : goal.returns-in-len1
returns-in-len1 c = number-is c.args.table.now c.args.gate.now (c.only-item.result ∷ []) (c.of_one.result % 2 ^ c.args.gate.now.width) (one-item c.args.gate.now.ports c.as_slice.result.now c.only-item.result c.as_slice.ensures (omega (arith, c.in-len1.len_at_least, c.in-len1.len_below)) c.only-item.is) c.of_one.ensures

pub of_two-requires-clause-first : goal.of_two-requires-clause-first
of_two-requires-clause-first c = item-readable c.args.table.now c.args.gate.now.ports c.as_slice.result.now 0 c.left-item.result c.requires.readable c.as_slice.ensures (omega (arith, c.in-len2.len_at_least)) c.left-item.is

pub of_two-requires-clause-second : goal.of_two-requires-clause-second
of_two-requires-clause-second c = item-readable c.args.table.now c.args.gate.now.ports c.as_slice.result.now 1 c.right-item.result c.requires.readable c.as_slice.ensures (omega (arith, c.in-len2.len_at_least)) c.right-item.is

pub of_two-requires-clause-shape : goal.of_two-requires-clause-shape
of_two-requires-clause-shape c = shape-is c.args.gate.now (c.left-item.result ∷ c.right-item.result ∷ []) (two-items c.args.gate.now.ports c.as_slice.result.now c.left-item.result c.right-item.result c.as_slice.ensures (omega (arith, c.in-len2.len_at_least, c.in-len2.len_below)) c.left-item.is c.right-item.is) c.requires.shape

pub returns-in-len2 : goal.returns-in-len2
returns-in-len2 c = number-is c.args.table.now c.args.gate.now (c.left-item.result ∷ c.right-item.result ∷ []) (c.of_two.result % 2 ^ c.args.gate.now.width) (two-items c.args.gate.now.ports c.as_slice.result.now c.left-item.result c.right-item.result c.as_slice.ensures (omega (arith, c.in-len2.len_at_least, c.in-len2.len_below)) c.left-item.is c.right-item.is) c.of_two.ensures

pub of_three-requires-clause-first : goal.of_three-requires-clause-first
of_three-requires-clause-first c = item-readable c.args.table.now c.args.gate.now.ports c.as_slice.result.now 0 c.a-item.result c.requires.readable c.as_slice.ensures (omega (arith, c.in-len3.len_at_least)) c.a-item.is

pub of_three-requires-clause-second : goal.of_three-requires-clause-second
of_three-requires-clause-second c = item-readable c.args.table.now c.args.gate.now.ports c.as_slice.result.now 1 c.b-item.result c.requires.readable c.as_slice.ensures (omega (arith, c.in-len3.len_at_least)) c.b-item.is

pub of_three-requires-clause-third : goal.of_three-requires-clause-third
of_three-requires-clause-third c = item-readable c.args.table.now c.args.gate.now.ports c.as_slice.result.now 2 c.d-item.result c.requires.readable c.as_slice.ensures (omega (arith, c.in-len3.len_at_least)) c.d-item.is

pub of_three-requires-clause-shape : goal.of_three-requires-clause-shape
of_three-requires-clause-shape c = shape-is c.args.gate.now (c.a-item.result ∷ c.b-item.result ∷ c.d-item.result ∷ []) (three-items c.args.gate.now.ports c.as_slice.result.now c.a-item.result c.b-item.result c.d-item.result c.as_slice.ensures (omega (arith, c.in-len3.len_at_least, c.in-len3.len_below)) c.a-item.is c.b-item.is c.d-item.is) c.requires.shape

pub returns-in-len3 : goal.returns-in-len3
returns-in-len3 c = number-is c.args.table.now c.args.gate.now (c.a-item.result ∷ c.b-item.result ∷ c.d-item.result ∷ []) (c.of_three.result % 2 ^ c.args.gate.now.width) (three-items c.args.gate.now.ports c.as_slice.result.now c.a-item.result c.b-item.result c.d-item.result c.as_slice.ensures (omega (arith, c.in-len3.len_at_least, c.in-len3.len_below)) c.a-item.is c.b-item.is c.d-item.is) c.of_three.ensures
