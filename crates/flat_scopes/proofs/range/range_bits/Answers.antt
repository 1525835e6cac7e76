use Rattle.flat_scopes.proofs.Common.{◌≡◌, ap, sym, ◌∙◌, Expr, least, names_of, constant_faults, constant_integer, sense}
use Rattle.vlog_meaning.specs.Integers.{bound_integer}
use Rattle.flat_scopes.specs.Ranges.{bits_between, bits_of_bounds, bits_of_range}
use Rattle.flat_scopes.proofs.Whole.{bounds-given}
use Rattle.flat_scopes.proofs.range.range_bits.Goals as goal

pub returns-in-Ok-constant_integer-clause-bits : goal.returns-in-Ok-constant_integer-clause-bits
returns-in-Ok-constant_integer-clause-bits c =
    let r = c.in-Some.range in
    let names = names_of c.args.scope.now in
    let left = c.in-Ok in
    let right = c.in-Ok-constant_integer in
    let msb = sense names c.get.result.now in
    let lsb = sense names c.get-2.result.now in
    let of = λ (e f : Expr). bits_of_bounds r.span (least (constant_faults (sense names e))) (least (constant_faults (sense names f))) (constant_integer (sense names e)) (constant_integer (sense names f)) in
    let given = bounds-given r.span (least (constant_faults msb)) (least (constant_faults lsb)) (constant_integer msb) (constant_integer lsb) left.ensures.refused right.ensures.refused in
    let bits = c.bits_between.ensures.bits ∙ ap (λ n. bits_between r.span n (bound_integer right.lsb)) left.ensures.value ∙ ap (λ n. bits_between r.span (constant_integer msb) n) right.ensures.value in
    let bounds : of c.get.result.now c.get-2.result.now ≡ of r.msb r.lsb = ap (λ e. of e c.get-2.result.now) c.get.ensures ∙ ap (λ f. of r.msb f) c.get-2.ensures in
    bits ∙ sym given ∙ bounds ∙ ap (λ range. bits_of_range names range) (sym c.in-Some.is)
