-- Where a requirement on the counts of tags is met.
use Rattle.std.specs.Prelude.{ℕ, ◌+◌, ◌*◌, ◌^◌, Bool, List, [], ◌∷◌, bytes_eq, nat_le, if◌then◌else◌}
use Rattle.std.specs.List.{list_any}
use Rattle.result_book.specs.declared.campaign.Campaign.{Campaign}
use Rattle.result_book.specs.declared.answer.Answer.{Answer}
use Rattle.source_report.specs.declared.counts.End.TheVariants.{Tag}
use Rattle.source_report.specs.Texts.{end_count}

-- the name is one of these
abbrev pub is_named : List (List ℕ) → List ℕ → Bool
is_named wanted name = list_any (λ other. bytes_eq other name) wanted

-- on how many mutations the script ended with the tag of this number, if its name is one of these
abbrev pub tag_count : Campaign → List (List Answer) → List (List ℕ) → ℕ → List ℕ → ℕ
tag_count c groups wanted tag name = if is_named wanted name then end_count c groups (Tag (2 ^ tag)) else 0

-- the sum of the counts of those of these tags, numbered from this one on, whose names are wanted
abbrev pub named_count : Campaign → List (List Answer) → List (List ℕ) → ℕ → List (List ℕ) → ℕ
named_count c groups wanted tag [] = 0
named_count c groups wanted tag (name ∷ names) = tag_count c groups wanted tag name + named_count c groups wanted (tag + 1) names

-- a part is at least this share of the whole, in percent; so it is where there is none
abbrev pub is_share : (percent part whole : ℕ) → Bool
is_share percent part whole = nat_le (percent * whole) (100 * part)

-- the mutations with one tag are at least this share of those with the tags of the others' names
abbrev pub is_met : Campaign → List (List Answer) → (percent : ℕ) → (counted : List ℕ) → (among : List (List ℕ)) → Bool
is_met c groups percent counted among = is_share percent (named_count c groups (counted ∷ []) 0 c.tags) (named_count c groups among 0 c.tags)
