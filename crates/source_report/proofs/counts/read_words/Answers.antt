use Rattle.source_report.proofs.Common.{◌<◌, ◌++◌, [], ◌∷◌, List, ℕ, Option, length, map, ap, sym, ◌∙◌, arith, length-map, take_all, groups, words_of}
use Rattle.source_report.proofs.Counted.{length-groups_from, taken-more, words-at}
use Rattle.source_report.proofs.counts.read_words.Goals as goal

pub read_words-requires : goal.read_words-requires
read_words-requires c =
    let long = length-groups_from c.args.campaign.now 0 (length c.args.campaign.now.mutations) c.args.state.now.rows in
    record { fit = c.requires.fit; state = c.requires.state; mutation = omega (arith, long, c.mutation_count-mutation-end.ensures.groups, c.loop-mutation-test.true) }

pub loop-mutation-preserved : goal.loop-mutation-preserved
loop-mutation-preserved c =
    let campaign = c.args.campaign.now in
    let rows = c.args.state.now.rows in
    let all : List (List (Option ℕ)) = map words_of (groups campaign rows) in
    let inside : c.loop-mutation.mutation < length campaign.mutations = (let long = length-groups_from campaign 0 (length campaign.mutations) rows in omega (arith, long, c.mutation_count-mutation-end.ensures.groups, c.loop-mutation-test.true)) in
    c.in_ok-push.ensures.items
    ∙ ap (λ (l : List (List (Option ℕ))). l ++ c.read_words.result ∷ []) c.loop-mutation.invariant
    ∙ sym (taken-more all c.loop-mutation.mutation c.read_words.result (words-at campaign rows c.loop-mutation.mutation c.read_words.result inside c.read_words.ensures))

pub returns : goal.returns
returns c =
    let all : List (List (Option ℕ)) = map words_of (groups c.args.campaign.now c.args.state.now.rows) in
    c.loop-mutation.invariant ∙ take_all c.loop-mutation.mutation all (let long = length-map (groups c.args.campaign.now c.args.state.now.rows) words_of in omega (arith, long, c.mutation_count-mutation-end.ensures.groups, c.loop-mutation-test.false))
