-- The last words of a mutation's answers, one more at the end.
use Rattle.result_book.proofs.Common.{◌≡◌, ◌≢◌, inl, inr, ℕ, ◌<◌, List, [], ◌∷◌, ◌++◌, set, Option, None, Some, refl, sym, ◌∙◌, ap, length, replicate, unwrap_or, eqb_tells, word_at, Answer, each_from}
use Rattle.result_book.proofs.Common.{word_in, words_of}
use Rattle.result_book.proofs.Each.{each_at, each_set, length-each_from}

-- the last word of a test counts
pub word_in-same : (answers : List Answer) (a : Answer) (test : ℕ) → a.test ≡ test → word_in (answers ++ a ∷ []) test ≡ Some a.word
word_in-same [] a test is = elim (eqb_tells a.test test) [ inl h ↦ rw h.0 refl | inr h ↦ absurd (h.1 is) ]
word_in-same (b ∷ more) a test is = rw (word_in-same more a test is) refl

-- the other tests' words stay
pub word_in-other : (answers : List Answer) (a : Answer) (test : ℕ) → a.test ≢ test → word_in (answers ++ a ∷ []) test ≡ word_in answers test
word_in-other [] a test other = elim (eqb_tells a.test test) [ inl h ↦ absurd (other h.1) | inr h ↦ rw h.0 refl ]
word_in-other (b ∷ more) a test other = rw (word_in-other more a test other) refl

-- a test has a further word, or its first one
pub words_of-more : (answers : List Answer) (a : Answer) → a.test < 16 → words_of (answers ++ a ∷ []) ≡ set (words_of answers) a.test (Some a.word)
unfolding words_of
words_of-more answers a inside =
    each_set (word_in answers) (word_in (answers ++ a ∷ [])) 16 a.test inside (λ j other. word_in-other answers a j (λ same. other (sym same)))
    ∙ ap (set (each_from (word_in answers) 0 16) a.test) (word_in-same answers a a.test refl)

pub word_at-words_of : (answers : List Answer) (test : ℕ) → test < 16 → word_at (words_of answers) test ≡ word_in answers test
unfolding words_of
word_at-words_of answers test inside = ap (λ (o : Option (Option ℕ)). unwrap_or o None) (each_at (word_in answers) 16 test inside)

pub length-words_of : (answers : List Answer) → length (words_of answers) ≡ 16
unfolding words_of
length-words_of answers = length-each_from (word_in answers) 0 16

pub words_of-none : words_of [] ≡ replicate 16 None
unfolding words_of
words_of-none = refl
