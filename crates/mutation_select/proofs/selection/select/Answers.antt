use Rattle.mutation_select.proofs.Common.{◌≡◌, List, length, map, min, ap, sym, ◌∙◌, subst, arith, IfOk-weaker, IsPermutation, length_permutation, Drawn, drawn, generator, draw_number, draws, kept}
use Rattle.mutation_select.proofs.Common.{number_of, selected, Ascends}
use Rattle.mutation_select.proofs.Numbered.{drawn-ascends, kept-ascends, length-drawn, length-draws, length-kept, numbers-of-draws}
use Rattle.mutation_select.proofs.selection.select.Goals as goal

pub draws-requires-clause-few : goal.draws-requires-clause-few
draws-requires-clause-few c =
    let words : List Drawn = drawn c.args.netlist.now.raw (generator c.args.word_seed) 0 c.args.sites.now in
    let are : c.in_ok-kept.kept.items ≡ kept c.args.omitted.now words = c.in_ok-kept.ensures ∙ ap (kept c.args.omitted.now) (c.deref.ensures.value ∙ c.in_ok-all.ensures) in
    let long = length-drawn c.args.netlist.now.raw (generator c.args.word_seed) 0 c.args.sites.now in
    omega (arith, ap length are, length-kept c.args.omitted.now words, long, c.requires)

pub draws-requires-clause-numbered : goal.draws-requires-clause-numbered
draws-requires-clause-numbered c =
    let words : List Drawn = drawn c.args.netlist.now.raw (generator c.args.word_seed) 0 c.args.sites.now in
    let are : c.in_ok-kept.kept.items ≡ kept c.args.omitted.now words = c.in_ok-kept.ensures ∙ ap (kept c.args.omitted.now) (c.deref.ensures.value ∙ c.in_ok-all.ensures) in
    subst (λ (list : List Drawn). Ascends 0 (map number_of list)) (sym are) (kept-ascends c.args.omitted.now words (drawn-ascends c.args.netlist.now.raw (generator c.args.word_seed) 0 c.args.sites.now))

pub returns-clause-selected : goal.returns-clause-selected
returns-clause-selected c =
    let words : List Drawn = drawn c.args.netlist.now.raw (generator c.args.word_seed) 0 c.args.sites.now in
    let sites : List Drawn = kept c.args.omitted.now words in
    let all = draws c.args.pick sites in
    let are : c.in_ok-kept.kept.items ≡ sites = c.in_ok-kept.ensures ∙ ap (kept c.args.omitted.now) (c.deref.ensures.value ∙ c.in_ok-all.ensures) in
    let ascends : Ascends 0 (map draw_number all) = subst (λ list. Ascends 0 list) (sym (numbers-of-draws c.args.pick sites)) (kept-ascends c.args.omitted.now words (drawn-ascends c.args.netlist.now.raw (generator c.args.word_seed) 0 c.args.sites.now)) in
    let same : IsPermutation all c.in_ok-draws.draws.items = subst (λ list. IsPermutation (draws c.args.pick list) c.in_ok-draws.draws.items) are c.in_ok-draws.ensures in
    IfOk-weaker c.first.result _ (λ numbers. numbers.items ≡ selected c.args.pick c.args.size sites) (λ numbers taken. taken all same ascends) c.first.ensures.taken

pub returns-clause-size : goal.returns-clause-size
returns-clause-size c =
    let words : List Drawn = drawn c.args.netlist.now.raw (generator c.args.word_seed) 0 c.args.sites.now in
    let sites : List Drawn = kept c.args.omitted.now words in
    let are : c.in_ok-kept.kept.items ≡ sites = c.in_ok-kept.ensures ∙ ap (kept c.args.omitted.now) (c.deref.ensures.value ∙ c.in_ok-all.ensures) in
    let same : IsPermutation (draws c.args.pick sites) c.in_ok-draws.draws.items = subst (λ list. IsPermutation (draws c.args.pick list) c.in_ok-draws.draws.items) are c.in_ok-draws.ensures in
    let all : length c.in_ok-draws.draws.items ≡ length sites = length_permutation (draws c.args.pick sites) c.in_ok-draws.draws.items same ∙ length-draws c.args.pick sites in
    IfOk-weaker c.first.result _ (λ numbers. length numbers.items ≡ min c.args.size (length sites)) (λ numbers many. many ∙ ap (λ n. min c.args.size n) all) c.first.ensures.size
