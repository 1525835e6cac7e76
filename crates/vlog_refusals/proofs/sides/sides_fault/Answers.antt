use Rattle.vlog_refusals.proofs.Common.{◌∙◌, ◌++◌, ap, DivideByZero, Shape, least, names_of, sense, own_zeros, assigned, kept, passed, wrong, divisions}
use Rattle.vlog_refusals.proofs.SideLemmas.{both_whole, context_is}
use Rattle.vlog_refusals.proofs.sides.sides_fault.Goals as goal

pub shape_of-to-requires-in-None : goal.shape_of-to-requires-in-None
shape_of-to-requires-in-None g c =
    let names = names_of c.args.scope.now in
    let is = c.earlier.ensures.joined (wrong g.P.Purpose.unsupported names c.args.left.now) (wrong g.P.Purpose.unsupported names c.args.right.now) c.wrong_in.ensures c.wrong_in-2.ensures in
    (both_whole g.P.Purpose.unsupported names c.args.left.now c.args.right.now c.earlier.result is c.in-None.is).0

pub shape_of-own-requires-in-None : goal.shape_of-own-requires-in-None
shape_of-own-requires-in-None g c =
    let names = names_of c.args.scope.now in
    let is = c.earlier.ensures.joined (wrong g.P.Purpose.unsupported names c.args.left.now) (wrong g.P.Purpose.unsupported names c.args.right.now) c.wrong_in.ensures c.wrong_in-2.ensures in
    (both_whole g.P.Purpose.unsupported names c.args.left.now c.args.right.now c.earlier.result is c.in-None.is).1

pub zero_in-requires-clause-whole : goal.zero_in-requires-clause-whole
zero_in-requires-clause-whole g c =
    let names = names_of c.args.scope.now in
    let is = c.earlier.ensures.joined (wrong g.P.Purpose.unsupported names c.args.left.now) (wrong g.P.Purpose.unsupported names c.args.right.now) c.wrong_in.ensures c.wrong_in-2.ensures in
    (both_whole g.P.Purpose.unsupported names c.args.left.now c.args.right.now c.earlier.result is c.in-None.is).0

pub zero_in-requires-in-None-clause-whole : goal.zero_in-requires-in-None-clause-whole
zero_in-requires-in-None-clause-whole g c =
    let names = names_of c.args.scope.now in
    let is = c.earlier.ensures.joined (wrong g.P.Purpose.unsupported names c.args.left.now) (wrong g.P.Purpose.unsupported names c.args.right.now) c.wrong_in.ensures c.wrong_in-2.ensures in
    (both_whole g.P.Purpose.unsupported names c.args.left.now c.args.right.now c.earlier.result is c.in-None.is).1

pub returns-in-Some : goal.returns-in-Some
returns-in-Some g c =
    let names = names_of c.args.scope.now in
    let x = sense names c.args.left.now in
    let y = sense names c.args.right.now in
    let is = c.earlier.ensures.joined (wrong g.P.Purpose.unsupported names c.args.left.now) (wrong g.P.Purpose.unsupported names c.args.right.now) c.wrong_in.ensures c.wrong_in-2.ensures in
    kept (wrong g.P.Purpose.unsupported names c.args.left.now ++ wrong g.P.Purpose.unsupported names c.args.right.now) (divisions (own_zeros x ++ y.zeros (assigned y x.shape.width))) c.earlier.result c.in-Some.fault is c.in-Some.is

pub returns-in-None : goal.returns-in-None
returns-in-None g c =
    let names = names_of c.args.scope.now in
    let x = sense names c.args.left.now in
    let y = sense names c.args.right.now in
    let is = c.earlier.ensures.joined (wrong g.P.Purpose.unsupported names c.args.left.now) (wrong g.P.Purpose.unsupported names c.args.right.now) c.wrong_in.ensures c.wrong_in-2.ensures in
    let left = c.zero_in.ensures ∙ ap (λ (s : Shape). least (divisions (x.zeros s))) c.shape_of-to.ensures.shape in
    let right = c.zero_in-in-None.ensures ∙ ap (λ (s : Shape). least (divisions (y.zeros s))) (context_is c.shape_of-own.result c.shape_of-to.result y.shape x.shape c.max.result c.max.ensures c.shape_of-own.ensures.shape c.shape_of-to.ensures.shape) in
    passed (wrong g.P.Purpose.unsupported names c.args.left.now ++ wrong g.P.Purpose.unsupported names c.args.right.now) (divisions (own_zeros x ++ y.zeros (assigned y x.shape.width))) c.earlier.result c.earlier-in-None.result is c.in-None.is (c.earlier-in-None.ensures.places DivideByZero (own_zeros x) (y.zeros (assigned y x.shape.width)) left right)
