-- The list of the mutations: a line for each, with its read tests in the order asked and their last words, and how its script
-- ended.
use Rattle.std.specs.Prelude.{ℕ, ◌+◌, ◌^◌, ◌==◌, List, [], ◌∷◌, ◌++◌, get_or, codes, decimal, if◌then◌else◌}
use Rattle.mcy_keeper.specs.declared.book.Entry.{Entry}
use Rattle.result_book.specs.declared.campaign.Campaign.{Campaign}
use Rattle.result_book.specs.declared.script.TestWord.TheVariants.{Pass, Fail, Hang, Unknown}
use Rattle.tag_script.specs.declared.answer.Ask.{Ask}
use Rattle.tag_script.specs.declared.answer.Ask.TheVariants.{Need, Done, AssertFailed, Unexpected}
use Rattle.result_book.specs.declared.answer.Answer.{Answer}
use Rattle.result_book.specs.Scripts.{ask, has_tag, word_code}
use Rattle.result_book.specs.Rows.{groups}
use Rattle.source_report.specs.Texts.{word_name}

-- the name of the word with this code
abbrev pub word_text : ℕ → List ℕ
word_text code =
    if code == word_code Pass then word_name Pass
    else if code == word_code Fail then word_name Fail
    else if code == word_code Hang then word_name Hang
    else word_name Unknown

-- a test's name and its word, as `same=FAIL`
abbrev pub answer_text : List (List ℕ) → Answer → List ℕ
answer_text names answer = get_or names answer.test [] ++ (codes "=" ++ word_text answer.word)

-- the answers of a mutation, a blank between two, where this stands before the first
abbrev pub answers_text : List ℕ → List (List ℕ) → List Answer → List ℕ
answers_text before names [] = []
answers_text before names (answer ∷ more) = before ++ (answer_text names answer ++ answers_text (codes " ") names more)

-- the tags with which a script ended, each behind a blank, of those with these names, numbered from this one on
abbrev pub tags_text : Ask → ℕ → List (List ℕ) → List ℕ
tags_text end tag [] = []
tags_text end tag (name ∷ names) = (if has_tag (2 ^ tag) end then codes " " ++ name else []) ++ tags_text end (tag + 1) names

-- how a mutation's script stands
abbrev pub end_text : List (List ℕ) → Ask → List ℕ
end_text tags (Need test) = codes " !unfinished"
end_text tags (Done bits) = tags_text (Done bits) 0 tags
end_text tags (AssertFailed line) = codes " !assert " ++ decimal line
end_text tags (Unexpected test) = codes " !unexpected"

-- the line of a mutation, which is counted from 0, and told from 1 on
abbrev pub list_line : Campaign → ℕ → List ℕ → List Answer → List ℕ
list_line c number site answers =
    (decimal (number + 1) ++ codes ": ") ++ (site ++ (codes " [" ++ (answers_text [] c.test_names answers
    ++ (codes "]" ++ (end_text c.tags (ask c answers) ++ codes "\n")))))

-- the lines of mutations at these sites and with these answers, numbered from this one on
abbrev pub list_lines : Campaign → ℕ → List (List ℕ) → List (List Answer) → List ℕ
list_lines c number (site ∷ sites) (answers ∷ groups) = list_line c number site answers ++ list_lines c (number + 1) sites groups
list_lines c number sites groups = []

-- the list of a campaign whose journal has these rows
unfoldable pub list_text : Campaign → List Entry → List ℕ
list_text c rows = list_lines c 0 c.mutations (groups c rows)
