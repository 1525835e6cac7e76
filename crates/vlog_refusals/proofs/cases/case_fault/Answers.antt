use Rattle.vlog_refusals.proofs.Common.{◌∙◌, List, ◌++◌, ◌∷◌, sym, ap, flat_map, Expr, names_of, DivideByZero, Fault, Shape, least, left_nil, right_nil, least_none, kept, passed, labels_in, zeros_at}
use Rattle.vlog_refusals.proofs.Common.{common_size, wrong, divisions}
use Rattle.vlog_refusals.proofs.SideLemmas.{whole_of}
use Rattle.vlog_refusals.proofs.SizeLemmas.{are_whole, common_within, labels_within}
use Rattle.vlog_refusals.proofs.cases.case_fault.Goals as goal

pub case_size-size-requires : goal.case_size-size-requires
case_size-size-requires g c =
    let names = names_of c.args.scope.now in
    let labels = flat_map labels_in c.args.items.now in
    let w : Expr → List Fault = wrong g.P.Purpose.unsupported names in
    let is = c.earlier.ensures.joined (w c.args.selector.now) (flat_map w labels) c.wrong_in.ensures c.labels_wrong_in.ensures in
    are_whole g.P.Purpose.unsupported names (c.args.selector.now ∷ labels) (least_none (w c.args.selector.now ++ flat_map w labels) (sym is ∙ c.in-None.is))

pub zero_in-requires-clause-whole : goal.zero_in-requires-clause-whole
zero_in-requires-clause-whole g c =
    let names = names_of c.args.scope.now in
    let labels = flat_map labels_in c.args.items.now in
    let w : Expr → List Fault = wrong g.P.Purpose.unsupported names in
    let is = c.earlier.ensures.joined (w c.args.selector.now) (flat_map w labels) c.wrong_in.ensures c.labels_wrong_in.ensures in
    whole_of g.P.Purpose.unsupported names c.args.selector.now (left_nil (w c.args.selector.now) (flat_map w labels) (least_none (w c.args.selector.now ++ flat_map w labels) (sym is ∙ c.in-None.is)))

pub labels_zero_in-requires-clause-whole : goal.labels_zero_in-requires-clause-whole
labels_zero_in-requires-clause-whole g c =
    let names = names_of c.args.scope.now in
    let labels = flat_map labels_in c.args.items.now in
    let w : Expr → List Fault = wrong g.P.Purpose.unsupported names in
    let is = c.earlier.ensures.joined (w c.args.selector.now) (flat_map w labels) c.wrong_in.ensures c.labels_wrong_in.ensures in
    are_whole g.P.Purpose.unsupported names labels (right_nil (w c.args.selector.now) (flat_map w labels) (least_none (w c.args.selector.now ++ flat_map w labels) (sym is ∙ c.in-None.is)))

pub labels_zero_in-requires-clause-within : goal.labels_zero_in-requires-clause-within
labels_zero_in-requires-clause-within g c =
    let names = names_of c.args.scope.now in
    let labels = flat_map labels_in c.args.items.now in
    labels_within names c.case_size-size.result c.args.items.now (common_within names c.case_size-size.result (c.args.selector.now ∷ labels) c.case_size-size.ensures.size c.case_size-size.ensures.sized).1

pub returns-in-Some : goal.returns-in-Some
returns-in-Some g c =
    let names = names_of c.args.scope.now in
    let labels = flat_map labels_in c.args.items.now in
    let w : Expr → List Fault = wrong g.P.Purpose.unsupported names in
    let is = c.earlier.ensures.joined (w c.args.selector.now) (flat_map w labels) c.wrong_in.ensures c.labels_wrong_in.ensures in
    kept (w c.args.selector.now ++ flat_map w labels) (divisions (flat_map (zeros_at names (common_size names (c.args.selector.now ∷ labels))) (c.args.selector.now ∷ labels))) c.earlier.result c.in-Some.fault is c.in-Some.is

pub returns-in-None : goal.returns-in-None
returns-in-None g c =
    let names = names_of c.args.scope.now in
    let labels = flat_map labels_in c.args.items.now in
    let w : Expr → List Fault = wrong g.P.Purpose.unsupported names in
    let is = c.earlier.ensures.joined (w c.args.selector.now) (flat_map w labels) c.wrong_in.ensures c.labels_wrong_in.ensures in
    let zeros = c.earlier-in-None.ensures.places DivideByZero (zeros_at names c.case_size-size.result c.args.selector.now) (flat_map (zeros_at names c.case_size-size.result) labels) c.zero_in.ensures c.labels_zero_in.ensures in
    passed (w c.args.selector.now ++ flat_map w labels) (divisions (flat_map (zeros_at names (common_size names (c.args.selector.now ∷ labels))) (c.args.selector.now ∷ labels))) c.earlier.result c.earlier-in-None.result is c.in-None.is (zeros ∙ ap (λ (s : Shape). least (divisions (flat_map (zeros_at names s) (c.args.selector.now ∷ labels)))) c.case_size-size.ensures.size)
