use Rattle.gate_words.proofs.ProductLemmas.{ProductAhead}
use Rattle.gate_words.proofs.products.product.Given as goal

abbrev pub invariant-loop-i : goal.invariant-loop-i
invariant-loop-i l = ProductAhead l.fn.gates l.a l.b l.i l.gates l.so_far.items
