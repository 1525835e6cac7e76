use Rattle.gate_words.specs.Products.{product_of}
use Rattle.gate_words.proofs.Growing.{row-told}
use Rattle.gate_words.proofs.ProductLemmas.{product-done, whole-product}
use Rattle.gate_words.proofs.products.product.Goals as goal

pub returns-clause-adds : goal.returns-clause-adds
returns-clause-adds c =
    row-told (product_of c.args.gates.now c.args.a.now c.args.b.now)
    (product-done c.args.gates.now c.loop-i.gates c.args.a.now c.args.b.now c.loop-i.i c.loop-i.so_far.items c.loop-i.invariant c.loop-i-test.false)
    (whole-product c.args.gates.now c.args.a.now c.args.b.now c.requires.a c.requires.b c.requires.same)
