-- The text of the status, from the read tests of each mutation with their last words, in the order of the mutations: counts, and
-- the project's report on the counts of tags. Neither the order of rows of different mutations nor a test that is not read plays a
-- part.
use Rattle.std.specs.Prelude.{ℕ, ◌+◌, ◌^◌, Bool, true, false, ◌==◌, ◌||◌, List, [], ◌∷◌, ◌++◌, length, count_by, Option, None, Some, codes, decimal, nat_lt, if◌then◌else◌}
use Rattle.mcy_keeper.specs.declared.book.Entry.{Entry}
use Rattle.report_script.specs.Texts.{report_text}
use Rattle.result_book.specs.declared.campaign.Campaign.{Campaign}
use Rattle.result_book.specs.declared.script.TestWord.{TestWord}
use Rattle.result_book.specs.declared.script.TestWord.TheVariants.{Pass, Fail, Hang, Unknown}
use Rattle.tag_script.specs.declared.answer.Ask.{Ask}
use Rattle.tag_script.specs.declared.answer.Ask.TheVariants.{AssertFailed, Unexpected}
use Rattle.result_book.specs.Campaigns.{sim_kind}
use Rattle.result_book.specs.declared.answer.Answer.{Answer}
use Rattle.result_book.specs.Scripts.{ask, has_tag, is_ended, word_code, word_in}
use Rattle.result_book.specs.Rows.{groups}
use Rattle.source_report.specs.declared.counts.End.{End}
use Rattle.source_report.specs.declared.counts.End.TheVariants.{Tag, Assert, Word}

abbrev pub word_name : TestWord → List ℕ
word_name Pass = codes "PASS"
word_name Fail = codes "FAIL"
word_name Hang = codes "HANG"
word_name Unknown = codes "UNKNOWN"

-- the word that a kind of test has beside PASS and FAIL
abbrev pub third_word : ℕ → TestWord
third_word kind = if kind == sim_kind then Hang else Unknown

-- a test answered with this word
abbrev pub is_word : TestWord → Option ℕ → Bool
is_word word None = false
is_word word (Some code) = code == word_code word

-- on how many mutations a test is read and answered with this word last
abbrev pub word_count : List (List Answer) → ℕ → TestWord → ℕ
word_count groups test word = count_by (λ answers. is_word word (word_in answers test)) groups

-- how many mutations' scripts need no more test
abbrev pub finished_count : Campaign → List (List Answer) → ℕ
finished_count c groups = count_by (λ answers. is_ended (ask c answers)) groups

-- every mutation's script needs no more test
abbrev pub are_finished : Campaign → List (List Answer) → Bool
are_finished c groups = finished_count c groups == length groups

-- a script ended in this way
abbrev pub is_end : End → Ask → Bool
is_end (Tag bit) ask = has_tag bit ask
is_end Assert (AssertFailed line) = true
is_end Word (Unexpected test) = true
is_end end ask = false

-- how many mutations' scripts ended in this way
abbrev pub end_count : Campaign → List (List Answer) → End → ℕ
end_count c groups end = count_by (λ answers. is_end end (ask c answers)) groups

-- some script ended at a failed assertion, or at a word that is not expected
abbrev pub has_faults : Campaign → List (List Answer) → Bool
has_faults c groups = nat_lt 0 (end_count c groups Assert) || nat_lt 0 (end_count c groups Word)

-- a line of a name and a number
abbrev pub number_line : List ℕ → ℕ → List ℕ
number_line name n = name ++ (codes ": " ++ (decimal n ++ codes "\n"))

-- the line of a test: each word that it may give, and on how many mutations it did
abbrev pub test_line : List (List Answer) → ℕ → List ℕ → ℕ → List ℕ
test_line groups test name kind =
    let count : TestWord → List ℕ = λ word. decimal (word_count groups test word) in
    codes "Test " ++ (name ++ (codes ": PASS " ++ (count Pass ++ (codes " FAIL " ++ (count Fail
    ++ (codes " " ++ (word_name (third_word kind) ++ (codes " " ++ (count (third_word kind) ++ codes "\n")))))))))

-- the lines of tests with these names and kinds, numbered from this one on
abbrev pub test_lines : List (List Answer) → ℕ → List (List ℕ) → List ℕ → List ℕ
test_lines groups test (name ∷ names) (kind ∷ kinds) = test_line groups test name kind ++ test_lines groups (test + 1) names kinds
test_lines groups test names kinds = []

abbrev pub tag_line : List ℕ → ℕ → List ℕ
tag_line name n = number_line (codes "Tag " ++ name) n

-- the lines of tags with these names, numbered from this one on
abbrev pub tag_lines : Campaign → List (List Answer) → ℕ → List (List ℕ) → List ℕ
tag_lines c groups tag [] = []
tag_lines c groups tag (name ∷ names) = tag_line name (end_count c groups (Tag (2 ^ tag))) ++ tag_lines c groups (tag + 1) names

-- the lines of the counts
unfoldable pub count_lines : Campaign → List (List Answer) → List ℕ
count_lines c groups =
    number_line (codes "Mutations") (length groups)
    ++ (number_line (codes "Finished") (finished_count c groups)
    ++ (test_lines groups 0 c.test_names c.kinds
    ++ (tag_lines c groups 0 c.tags
    ++ (number_line (codes "Asserts") (end_count c groups Assert)
    ++ number_line (codes "Unexpected") (end_count c groups Word)))))

-- on how many mutations the script ended with each tag of this list, numbered from this one on
abbrev pub tag_counts : Campaign → List (List Answer) → ℕ → List (List ℕ) → List ℕ
tag_counts c groups tag [] = []
tag_counts c groups tag (name ∷ names) = end_count c groups (Tag (2 ^ tag)) ∷ tag_counts c groups (tag + 1) names

unfoldable pub lines : Campaign → List (List Answer) → List ℕ
lines c groups = count_lines c groups ++ report_text c.report (tag_counts c groups 0 c.tags)

-- the text of the status of a campaign whose journal has these rows
abbrev pub status_text : Campaign → List Entry → List ℕ
status_text c rows = lines c (groups c rows)
