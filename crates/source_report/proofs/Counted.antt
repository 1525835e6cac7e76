-- What is counted over a state's lists, and what is counted over the answers that they come from.
use Rattle.source_report.proofs.Common.{◌≡◌, ℕ, ◌+◌, ◌<◌, Bool, true, false, List, [], ◌∷◌, ◌++◌, length, map, take, slice_get, cond, count_by, Option, Some, refl, sym, ◌∙◌, ap, take_more, Entry}
use Rattle.source_report.proofs.Common.{TestWord, Campaign, IsFit, Answer, ask, each_from, word_in, words_of, answers_of, ask_on, groups, groups_from, read_on, read_asks, is_word, word_count}
use Rattle.std.specs.Prelude.{option_map}
use Rattle.std.proofs.lemmas.List.Sums.{count_by_more_no, count_by_more_yes, sum_by-cons}
use Rattle.std.proofs.lemmas.Option.{get_or_from_slice_get, slice_get-map, slice_get_within}
use Rattle.tag_script.specs.Outcomes.{word_at}
use Rattle.result_book.proofs.Each.{each_at, each_from-same, length-each_from, map-each_from}
use Rattle.result_book.proofs.Words.{word_at-words_of}

pub length-groups_from : (c : Campaign) (m n : ℕ) (rows : List Entry) → length (groups_from c m n rows) ≡ n
length-groups_from c m n rows = length-each_from (λ k. read_on c k rows) m n

-- what the script asks on the read tests of each mutation is what it asks on all its rows
pub asks_told : (c : Campaign) (rows : List Entry) → IsFit c → each_from (λ m. ask_on c m rows) 0 (length c.mutations) ≡ map (ask c) (groups c rows)
asks_told c rows fit =
    each_from-same (λ m. ask c (read_on c m rows)) (λ m. ask_on c m rows) 0 (length c.mutations) (λ m above. sym (read_asks c (answers_of m rows) fit))
    ∙ sym (map-each_from (ask c) (λ m. read_on c m rows) 0 (length c.mutations))

-- the last words of the read tests of a mutation
pub words-at : (c : Campaign) (rows : List Entry) (m : ℕ) (words : List (Option ℕ)) → m < length c.mutations → words ≡ words_of (read_on c m rows) → slice_get (map words_of (groups c rows)) m ≡ Some words
words-at c rows m words inside is =
    slice_get-map words_of (groups c rows) m ∙ ap (option_map words_of) (each_at (λ k. read_on c k rows) (length c.mutations) m inside) ∙ ap Some (sym is)

-- the first elements of a list with one more
pub taken-more : {X : Type 0} (xs : List X) (i : ℕ) (x : X) → slice_get xs i ≡ Some x → take (i + 1) xs ≡ take i xs ++ x ∷ []
taken-more xs i x at = take_more xs i x (slice_get_within xs i x at) ∙ ap (λ y. take i xs ++ y ∷ []) (get_or_from_slice_get xs i x x at)

-- one element more, which passes or fails
pub count_yes : {X : Type 0} (p : X → Bool) (xs : List X) (i : ℕ) (x : X) → slice_get xs i ≡ Some x → p x ≡ true → count_by p (take (i + 1) xs) ≡ count_by p (take i xs) + 1
count_yes p xs i x at is =
    count_by_more_yes p xs i x (slice_get_within xs i x at) (ap p (get_or_from_slice_get xs i x x at) ∙ is)

pub count_no : {X : Type 0} (p : X → Bool) (xs : List X) (i : ℕ) (x : X) → slice_get xs i ≡ Some x → p x ≡ false → count_by p (take (i + 1) xs) ≡ count_by p (take i xs)
count_no p xs i x at is =
    count_by_more_no p xs i x (slice_get_within xs i x at) (ap p (get_or_from_slice_get xs i x x at) ∙ is)

pub count-cons : {X : Type 0} (p : X → Bool) (x : X) (xs : List X) → count_by p (x ∷ xs) ≡ cond (p x) 1 0 + count_by p xs
count-cons p x xs = sum_by-cons (λ y. cond (p y) 1 0) x xs

-- the count over what a function gives is that of a test that agrees on it
pub count-map : {X Y : Type 0} (p : Y → Bool) (q : X → Bool) (f : X → Y) → ((x : X) → p (f x) ≡ q x) → (xs : List X) → count_by p (map f xs) ≡ count_by q xs
count-map p q f same [] = refl
count-map p q f same (x ∷ xs) =
    count-cons p (f x) (map f xs)
    ∙ ap (λ n. cond (p (f x)) 1 0 + n) (count-map p q f same xs)
    ∙ ap (λ b. cond b 1 0 + count_by q xs) (same x)
    ∙ sym (count-cons q x xs)

pub words_counted : (word : TestWord) (test : ℕ) (groups : List (List Answer)) → test < 16 → count_by (λ words. is_word word (word_at words test)) (map words_of groups) ≡ word_count groups test word
words_counted word test groups inside =
    count-map (λ words. is_word word (word_at words test)) (λ answers. is_word word (word_in answers test)) words_of
    (λ answers. ap (is_word word) (word_at-words_of answers test inside)) groups

pub words_told : (word : TestWord) (test n : ℕ) (reads : List (List (Option ℕ))) (groups : List (List Answer)) → test < 16 → reads ≡ map words_of groups → n ≡ count_by (λ words. is_word word (word_at words test)) reads → n ≡ word_count groups test word
words_told word test n reads groups inside same is = is ∙ ap (count_by (λ words. is_word word (word_at words test))) same ∙ words_counted word test groups inside
