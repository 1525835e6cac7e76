-- The counts of tags by their names.
use Rattle.source_report.proofs.Common.{◌≡◌, ℕ, ◌+◌, ◌<◌, ◌≤◌, List, arith, length, get_or, drop, ◌∙◌, ap, drop_more, Entry, Campaign, Answer, IsFit, groups, ask, End, named_count, tag_count}
use Rattle.source_report.proofs.Common.{end_count, is_end}
use Rattle.std.proofs.lemmas.List.Sums.{count_by-le-length}
use Rattle.source_report.proofs.Counted.{length-groups_from}

-- a sum with the count of the next tag, and those of the tags after it, is the sum of all these
pub named-more : (c : Campaign) (answers : List (List Answer)) (wanted : List (List ℕ)) (tag : ℕ) (names : List (List ℕ)) (name : List ℕ) (sum count : ℕ) → tag < length names → name ≡ get_or names tag name → count ≡ tag_count c answers wanted tag name
    → (sum + count) + named_count c answers wanted (tag + 1) (drop (tag + 1) names) ≡ sum + named_count c answers wanted tag (drop tag names)
named-more c answers wanted tag names name sum count inside at is =
    let all : named_count c answers wanted tag (drop tag names) ≡ tag_count c answers wanted tag (get_or names tag name) + named_count c answers wanted (tag + 1) (drop (tag + 1) names) = ap (named_count c answers wanted tag) (drop_more names tag name inside) in
    let one : count ≡ tag_count c answers wanted tag (get_or names tag name) = is ∙ ap (tag_count c answers wanted tag) at in
    omega (arith, all, one)

-- no more mutations end in a way than there are
pub ends_few : (c : Campaign) (rows : List Entry) (end : End) → IsFit c → end_count c (groups c rows) end ≤ 10000
ends_few c rows end fit =
    let few : end_count c (groups c rows) end ≤ length (groups c rows) = count_by-le-length (λ answers. is_end end (ask c answers)) (groups c rows) in
    omega (arith, few, length-groups_from c 0 (length c.mutations) rows, fit.few_mutations)
