-- The lines of a text, one after another.
use Rattle.source_report.proofs.Common.{◌≡◌, ℕ, suc, ◌+◌, ◌-◌, ◌<◌, ◌^◌, List, [], ◌∷◌, ◌++◌, arith, codes, decimal, length, get_or, drop, sym, ◌∙◌, ap, append_assoc, drop_more, Entry, Campaign}
use Rattle.source_report.proofs.Common.{Answer, groups_from, read_on, answer_text, answers_text, list_line, list_lines, Tag, answers_at, file_text, file_texts, line_text, source_lines, end_count}
use Rattle.source_report.proofs.Common.{tag_counts, tag_line, tag_lines, test_line, test_lines, third_word, word_count, word_name, Pass, Fail}
use Rattle.mcy_base.specs.declared.file.SourceFile.{SourceFile}

-- a text with the line of the next tag, and the lines after it, is the text with all these lines
pub tag_lines-more : (c : Campaign) (groups : List (List Answer)) (tag : ℕ) (names : List (List ℕ)) (name text : List ℕ) (count : ℕ) → tag < length names → name ≡ get_or names tag name → count ≡ end_count c groups (Tag (2 ^ tag))
    → (text ++ tag_line name count) ++ tag_lines c groups (tag + 1) (drop (tag + 1) names) ≡ text ++ tag_lines c groups tag (drop tag names)
tag_lines-more c groups tag names name text count inside at is =
    let rest : List ℕ = tag_lines c groups (tag + 1) (drop (tag + 1) names) in
    append_assoc text (tag_line name count) rest
    ∙ ap (λ n. text ++ (tag_line name n ++ rest)) is
    ∙ ap (λ n. text ++ (tag_line n (end_count c groups (Tag (2 ^ tag))) ++ rest)) at
    ∙ ap (λ ns. text ++ tag_lines c groups tag ns) (sym (drop_more names tag name inside))

-- counts with the count of the next tag, and the counts after it, are all these counts
pub tag_counts-more : (c : Campaign) (groups : List (List Answer)) (tag : ℕ) (names : List (List ℕ)) (counts : List ℕ) (count : ℕ) → tag < length names → count ≡ end_count c groups (Tag (2 ^ tag))
    → (counts ++ count ∷ []) ++ tag_counts c groups (tag + 1) (drop (tag + 1) names) ≡ counts ++ tag_counts c groups tag (drop tag names)
tag_counts-more c groups tag names counts count inside is =
    append_assoc counts (count ∷ []) (tag_counts c groups (tag + 1) (drop (tag + 1) names))
    ∙ ap (λ n. counts ++ (n ∷ tag_counts c groups (tag + 1) (drop (tag + 1) names))) is
    ∙ ap (λ ns. counts ++ tag_counts c groups tag ns) (sym (drop_more names tag [] inside))

-- a text with the line of the next test, and the lines after it, is the text with all these lines
pub test_lines-more : (groups : List (List Answer)) (test : ℕ) (names : List (List ℕ)) (kinds name text more : List ℕ) (kind : ℕ) → test < length names → test < length kinds → name ≡ get_or names test name → kind ≡ get_or kinds test 0 → more ≡ text ++ test_line groups test name kind
    → more ++ test_lines groups (test + 1) (drop (test + 1) names) (drop (test + 1) kinds) ≡ text ++ test_lines groups test (drop test names) (drop test kinds)
test_lines-more groups test names kinds name text more kind inside told at is all =
    let rest : List ℕ = test_lines groups (test + 1) (drop (test + 1) names) (drop (test + 1) kinds) in
    ap (λ t. t ++ rest) all
    ∙ append_assoc text (test_line groups test name kind) rest
    ∙ ap (λ n. text ++ (test_line groups test n kind ++ rest)) at
    ∙ ap (λ k. text ++ (test_line groups test (get_or names test name) k ++ rest)) is
    ∙ ap (λ ks. text ++ test_lines groups test (get_or names test name ∷ drop (test + 1) names) ks) (sym (drop_more kinds test 0 told))
    ∙ ap (λ ns. text ++ test_lines groups test ns (drop test kinds)) (sym (drop_more names test name inside))

-- the line of a test, by its counts
abbrev pub counts_line : List ℕ → List ℕ → ℕ → ℕ → ℕ → List ℕ
counts_line name third passed failed others =
    codes "Test " ++ (name ++ (codes ": PASS " ++ (decimal passed ++ (codes " FAIL " ++ (decimal failed ++ (codes " " ++ (third ++ (codes " " ++ (decimal others ++ codes "\n")))))))))

pub test_line-told : (groups : List (List Answer)) (test kind passed failed others : ℕ) (text name third : List ℕ) → third ≡ word_name (third_word kind) → passed ≡ word_count groups test Pass → failed ≡ word_count groups test Fail → others ≡ word_count groups test (third_word kind)
    → text ++ counts_line name third passed failed others ≡ text ++ test_line groups test name kind
test_line-told groups test kind passed failed others text name third is passes fails rest = λ i. text ++ counts_line name (is i) (passes i) (fails i) (rest i)

-- six texts, one after another
pub joined : (t u v w x y z a b c d e f : List ℕ) → t ≡ [] → u ≡ t ++ a → v ≡ u ++ b → w ≡ v ++ c → x ≡ w ++ d → y ≡ x ++ e → z ≡ y ++ f → z ≡ a ++ (b ++ (c ++ (d ++ (e ++ f))))
joined t u v w x y z a b c d e f none one two three four five six =
    let all : z ≡ ((((([] ++ a) ++ b) ++ c) ++ d) ++ e) ++ f = cc in
    all ∙ simp append_assoc

-- seven texts, one after another behind a first
pub joined_behind : (t u v w x y z o a b c d e f g : List ℕ) → u ≡ t ++ a → v ≡ u ++ b → w ≡ v ++ c → x ≡ w ++ d → y ≡ x ++ e → z ≡ y ++ f → o ≡ z ++ g → o ≡ t ++ (a ++ (b ++ (c ++ (d ++ (e ++ (f ++ g))))))
joined_behind t u v w x y z o a b c d e f g one two three four five six seven =
    let all : o ≡ ((((((t ++ a) ++ b) ++ c) ++ d) ++ e) ++ f) ++ g = cc in
    all ∙ simp append_assoc

-- a text with the next answer, and the answers after it, is the text with all these answers
pub answers_text-more : (names : List (List ℕ)) (before text more : List ℕ) (answers : List Answer) (i : ℕ) (none : Answer) → i < length answers → more ≡ text ++ (before ++ answer_text names (get_or answers i none))
    → more ++ answers_text (codes " ") names (drop (i + 1) answers) ≡ text ++ answers_text before names (drop i answers)
answers_text-more names before text more answers i none inside is =
    let answer : List ℕ = answer_text names (get_or answers i none) in
    let rest : List ℕ = answers_text (codes " ") names (drop (i + 1) answers) in
    ap (λ t. t ++ rest) is
    ∙ append_assoc text (before ++ answer) rest
    ∙ ap (λ t. text ++ t) (append_assoc before answer rest)
    ∙ ap (λ (l : List Answer). text ++ answers_text before names l) (sym (drop_more answers i none inside))

-- a text with the line of the next mutation, and the lines after it, is the text with all these lines
pub list_lines-more : (c : Campaign) (number : ℕ) (sites : List (List ℕ)) (site text : List ℕ) (rows : List Entry) → number < length sites → site ≡ get_or sites number site
    → (text ++ list_line c number site (read_on c number rows)) ++ list_lines c (number + 1) (drop (number + 1) sites) (groups_from c (number + 1) (length sites - (number + 1)) rows)
    ≡ text ++ list_lines c number (drop number sites) (groups_from c number (length sites - number) rows)
list_lines-more c number sites site text rows inside at =
    let answers : List Answer = read_on c number rows in
    let rest : List ℕ = list_lines c (number + 1) (drop (number + 1) sites) (groups_from c (number + 1) (length sites - (number + 1)) rows) in
    let left : suc (length sites - (number + 1)) ≡ length sites - number = omega (arith, inside) in
    append_assoc text (list_line c number site answers) rest
    ∙ ap (λ s. text ++ (list_line c number s answers ++ rest)) at
    ∙ ap (λ k. text ++ list_lines c number (get_or sites number site ∷ drop (number + 1) sites) (groups_from c number k rows)) left
    ∙ ap (λ ss. text ++ list_lines c number ss (groups_from c number (length sites - number) rows)) (sym (drop_more sites number site inside))

-- a text with the next line of a file, and the lines after it, is the text with all these lines
pub source_lines-more : (c : Campaign) (groups : List (List Answer)) (file number mutations : ℕ) (counts text more line : List ℕ) (lines rest : List (List ℕ)) → lines ≡ line ∷ rest
    → mutations ≡ length (answers_at file number c.lines groups) → counts ≡ tag_counts c (answers_at file number c.lines groups) 0 c.tags → more ≡ text ++ line_text number mutations counts line
    → more ++ source_lines c groups file (number + 1) rest ≡ text ++ source_lines c groups file number lines
source_lines-more c groups file number mutations counts text more line lines rest are many given is =
    let here : List (List Answer) = answers_at file number c.lines groups in
    let behind : List ℕ = source_lines c groups file (number + 1) rest in
    ap (λ t. t ++ behind) is
    ∙ append_assoc text (line_text number mutations counts line) behind
    ∙ ap (λ n. text ++ (line_text number n counts line ++ behind)) many
    ∙ ap (λ ns. text ++ (line_text number (length here) ns line ++ behind)) given
    ∙ ap (λ ls. text ++ source_lines c groups file number ls) (sym are)

-- a text with the next file, and the files after it, is the text with all these files
pub file_texts-more : (c : Campaign) (groups : List (List Answer)) (number : ℕ) (files : List SourceFile) (file : SourceFile) (text more : List ℕ) → number < length files → file ≡ get_or files number file → more ≡ text ++ file_text c groups number file
    → more ++ file_texts c groups (number + 1) (drop (number + 1) files) ≡ text ++ file_texts c groups number (drop number files)
file_texts-more c groups number files file text more inside at is =
    let behind : List ℕ = file_texts c groups (number + 1) (drop (number + 1) files) in
    ap (λ t. t ++ behind) is
    ∙ append_assoc text (file_text c groups number file) behind
    ∙ ap (λ (f : SourceFile). text ++ (file_text c groups number f ++ behind)) at
    ∙ ap (λ (fs : List SourceFile). text ++ file_texts c groups number fs) (sym (drop_more files number file inside))
