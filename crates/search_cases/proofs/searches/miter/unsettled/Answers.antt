use Rattle.std.proofs.Common.{◌≡◌, ◌+◌, ◌-◌, Bool, Option, None, length, ap, ◌∙◌, subst, arith}
use Rattle.std.proofs.lemmas.List.{length-replicate}
use Rattle.clause_store.specs.Propagation.{Known, none}
use Rattle.lrat_checker.specs.Tables.{known_of}
use Rattle.search_cases.specs.Settling.{IsSettled}
use Rattle.search_cases.proofs.Settled.{known-opened, settled-more, settles-from}
use Rattle.search_cases.proofs.searches.miter.unsettled.Goals as goal

pub is_settled-requires-clause-over : goal.is_settled-requires-clause-over
is_settled-requires-clause-over c =
    let open_value : Option Bool = None in
    let len : length c.loop-v.values.items - 1 ≡ c.args.variables = (let e : length c.loop-v.values.items ≡ c.args.variables + 1 = ap (length {A = Option Bool}) c.loop-v.invariant.1 ∙ length-replicate (c.args.variables + 1) open_value in omega (arith, e)) in
    rw len c.requires.over

pub is_settled-requires-clause-within : goal.is_settled-requires-clause-within
is_settled-requires-clause-within c =
    let open_value : Option Bool = None in
    let e : length c.loop-v.values.items ≡ c.args.variables + 1 = ap (length {A = Option Bool}) c.loop-v.invariant.1 ∙ length-replicate (c.args.variables + 1) open_value in
    omega (arith, e, c.loop-v-test.true)

pub loop-v-preserved : goal.loop-v-preserved
loop-v-preserved c =
    let P : Known → Type 0 = λ k. IsSettled c.args.store.now k (c.loop-v.v + 1) in
    let opens : known_of c.loop-v.values.items ≡ none = ap known_of c.loop-v.invariant.1 ∙ known-opened (c.args.variables + 1) in
    let here : IsSettled c.args.store.now none (c.loop-v.v + 1) = subst P opens c.if-not-is_settled.ensures.settled in
    (settled-more c.args.store.now c.args.free c.loop-v.v c.loop-v.invariant.0 here, c.is_settled.ensures.same ∙ c.loop-v.invariant.1)

pub returns : goal.returns
returns c = settles-from c.args.store.now c.args.variables c.args.free c.loop-v.v (omega (arith, c.loop-v-test.false)) c.loop-v.invariant.0
