use Rattle.source_report.proofs.Common.{◌≡◌, ◌≤◌, List, length, replicate, slice_index, count_by, ap, ◌∙◌, arith, zip, get_or-replicate, length-replicate, take_all, groups, is_counted}
use Rattle.std.proofs.lemmas.Slice.Zip.{length-zip}
use Rattle.source_report.proofs.Counted.{asks_told, length-groups_from}
use Rattle.source_report.proofs.LineCounting.{counted-all, row-few, row-inside, seen-more, slice_get-zip, Mutation}
use Rattle.source_report.proofs.line_counts.counts_of.Goals as goal

pub place_of-place-requires : goal.place_of-place-requires
place_of-place-requires c =
    let long = length-groups_from c.args.campaign.now 0 (length c.args.campaign.now.mutations) c.args.state.now.rows in
    omega (arith, long, c.mutation_count-mutation-end.ensures.groups, c.requires.fit.lines, c.loop-mutation-test.true)

pub loop-mutation-init : goal.loop-mutation-init
loop-mutation-init c =
    let none : c.in_ok-counts.counts.items ≡ replicate c.args.lines 0 = c.in_ok-counts.ensures.items_if_clones_equal (λ y e. e) in record {
      count = ap length none ∙ length-replicate c.args.lines 0;
      each = λ row below. ap (λ counts. slice_index counts row) none ∙ get_or-replicate c.args.lines row 0 0 below;
    }

pub count_one-requires-clause-within : goal.count_one-requires-clause-within
count_one-requires-clause-within c = row-inside c.wanted_row-row.result _ c.args.lines _ c.wanted_row-row.ensures.within (omega (arith, c.loop-mutation.invariant.count, c.loop-mutation.counts.ok.0))

pub count_one-requires-clause-few : goal.count_one-requires-clause-few
count_one-requires-clause-few c =
    let all : List Mutation = zip c.args.campaign.now.lines c.args.state.now.asks in
    let long = length-groups_from c.args.campaign.now 0 (length c.args.campaign.now.mutations) c.args.state.now.rows in
    row-few c.wanted_row-row.result _ c.args.file c.args.wanted c.args.lines c.loop-mutation.mutation _ all c.loop-mutation.counts.items c.wanted_row-row.ensures.within c.loop-mutation.invariant
    (omega (arith, long, c.mutation_count-mutation-end.ensures.groups, c.requires.fit.few_mutations, c.loop-mutation-test.true))

pub loop-mutation-preserved : goal.loop-mutation-preserved
loop-mutation-preserved c =
    let all : List Mutation = zip c.args.campaign.now.lines c.args.state.now.asks in
    seen-more c.args.file c.args.wanted c.args.lines c.loop-mutation.mutation all (c.place_of-place.result, c.ask_of.result) c.wanted_row-row.result c.loop-mutation.counts.items c.count_one.new.counts.items
    (slice_get-zip c.args.campaign.now.lines c.args.state.now.asks c.loop-mutation.mutation c.place_of-place.result c.ask_of.result c.place_of-place.ensures c.ask_of.ensures)
    c.wanted_row-row.ensures.within c.wanted_row-row.ensures.at c.count_one.ensures c.loop-mutation.invariant

pub returns : goal.returns
returns c =
    let places = c.args.campaign.now.lines in
    let answers = groups c.args.campaign.now c.args.state.now.rows in
    let all : List Mutation = zip c.args.campaign.now.lines c.args.state.now.asks in
    let short : length all ≤ c.loop-mutation.mutation = (let long = length-zip c.args.campaign.now.lines c.args.state.now.asks in omega (arith, long, c.mutation_count-mutation-end.ensures.asks, c.loop-mutation-test.false)) in
    record {
      count = c.loop-mutation.invariant.count;
      each = λ row below. c.loop-mutation.invariant.each row below
          ∙ ap (count_by (is_counted c.args.file c.args.wanted row)) (take_all c.loop-mutation.mutation all short ∙ ap (zip c.args.campaign.now.lines) (c.requires.state.asks ∙ asks_told c.args.campaign.now c.args.state.now.rows c.requires.fit))
          ∙ counted-all c.args.campaign.now c.args.file row c.args.wanted c.args.campaign.now.lines answers;
    }
